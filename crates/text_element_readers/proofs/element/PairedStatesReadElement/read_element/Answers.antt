use Rattle.std.proofs.Common.{map, ap, subst, ◌∙◌}
use Rattle.spec_ir.specs.Views.{specification}
use Rattle.base_product.specs.Meaning.{paired}
use Rattle.abstract_value_laws.specs.Abs.{parts}
use Rattle.domain_laws.specs.States.{state_type}
use Rattle.domain_laws.specs.Values.{FieldsFit}
use Rattle.abstract_value.specs.View.{abs}
use Rattle.domain_cells.specs.Views.{context_of, states_of}
use Rattle.domain_product_states.specs.Views.{seen}
use Rattle.text_element_readers.specs.Reading.{CellsRead}
use Rattle.text_element_readers.proofs.Bodies.{both_hold, cells_fit, fields_same, pair_none, put_done, put_has, values_fit}
use Rattle.text_element_readers.proofs.element.PairedStatesReadElement.read_element.Goals as goal

pub both_parts-requires-clause-first : goal.both_parts-requires-clause-first
both_parts-requires-clause-first g c = rw (← c.ctx.view_is) ((rw c.in-Some.is at c.in_ok-xs.ensures.fits).1)

pub both_parts-requires-clause-second : goal.both_parts-requires-clause-second
both_parts-requires-clause-second g c =
    rw (← c.ctx.view_is) (values_fit g.B.Base.algebra c.ctx.inside.1 g.B.Base.CAP (state_type (specification c.args.spec.now)).fields c.read_named-second.result (λ xs. parts (map abs xs.items)) c.read_named-second.ensures.fits)

pub returns-in-Some-clause-reads : goal.returns-in-Some-clause-reads
returns-in-Some-clause-reads g c =
    put_done (λ z. seen z) (λ xs. parts (map abs xs.items)) (parts (map abs c.in-Some.xs.items)) (CellsRead g.A.CellBase.readings g.A.Base.CAP g.A.NamedBase.named) (CellsRead g.B.CellBase.readings g.B.Base.CAP g.B.NamedBase.named) (specification c.args.spec.now) _
    c.both_parts.result c.read_named-second.result c.args.lines.now c.read_named.new.lines c.read_named-second.new.lines (rw c.in-Some.is at c.in_ok-xs.ensures.reads) c.read_named-second.ensures.reads c.both_parts.ensures

pub returns-in-Some-clause-fits : goal.returns-in-Some-clause-fits
returns-in-Some-clause-fits g c =
    let A = g.A.Base.algebra in
    let B = g.B.Base.algebra in
    let m = g.A.Base.CAP in
    let n = g.B.Base.CAP in
    let k = context_of c.args.self.now.states in
    let t = states_of c.args.self.now.states in
    let spec = specification c.args.spec.now in
    let x = parts (map abs c.in-Some.xs.items) in
    let shared = c.ctx.view_is ∙ c.shared-ctx.ensures in
    let same = fields_same (paired A B) t spec c.requires.made in
    let first = subst (λ fs. FieldsFit A k.0 m fs x) same (subst (λ z. FieldsFit A z.0 m (state_type spec).fields x) shared (rw c.in-Some.is at c.in_ok-xs.ensures.fits)) in
    let second = cells_fit B c.ctx.inside.1 k.1 n (state_type spec).fields t.fields c.read_named-second.result (λ xs. parts (map abs xs.items)) (ap (λ z. z.1) shared) same c.read_named-second.ensures.fits in
    put_has (λ z. seen z) (λ xs. parts (map abs xs.items)) x (λ z. FieldsFit A k.0 m t.fields z.0 × FieldsFit B k.1 n t.fields z.1) c.both_parts.result c.read_named-second.result
    (both_hold (FieldsFit A k.0 m t.fields x) (λ ys. FieldsFit B k.1 n t.fields (parts (map abs ys.items))) c.read_named-second.result first second) c.both_parts.ensures

pub returns-in-None-clause-reads : goal.returns-in-None-clause-reads
returns-in-None-clause-reads g c =
    pair_none (CellsRead g.A.CellBase.readings g.A.Base.CAP g.A.NamedBase.named) (CellsRead g.B.CellBase.readings g.B.Base.CAP g.B.NamedBase.named) (specification c.args.spec.now) _ c.args.lines.now c.read_named.new.lines (rw c.in-None.is at c.in_ok-xs.ensures.reads)

use Rattle.std.proofs.Common.{◌≡◌, map, sym, subst}
use Rattle.abstract_value_laws.specs.Abs.{parts}
use Rattle.abstract_value_laws.specs.Calls.{widen_parts}
use Rattle.abstract_map.proofs.Whole.{if_ok}
use Rattle.domain_laws.specs.Values.{FieldsFit}
use Rattle.domain_laws.proofs.Cells.{widened_fit}
use Rattle.abstract_value.specs.View.{abs}
use Rattle.domain_cells.proofs.domain.StateDomainDomain.widen.Goals as goal

pub returns-clause-fits : goal.returns-clause-fits
returns-clause-fits g c =
    let B = g.B.Base.algebra in
    let ctx = c.args.self.now.ctx in
    let cap = g.B.Base.CAP in
    let fields = c.args.self.now.fields.items in
    let x = parts (map abs c.args.old.now.items) in
    let y = parts (map abs c.args.new.now.items) in
    if_ok (λ r. parts (map abs r.items) ≡ widen_parts B ctx x y) (λ r. FieldsFit B ctx cap fields (parts (map abs r.items))) c.widen_values.result
    (λ r e. subst (FieldsFit B ctx cap fields) (sym e) (widened_fit B g.met.B.Base.laws ctx cap fields x y c.requires.old c.requires.new)) (rw (c.deref.ensures.value, c.deref-2.ensures.value) at c.widen_values.ensures)

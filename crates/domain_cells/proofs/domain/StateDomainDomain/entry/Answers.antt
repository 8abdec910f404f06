use Rattle.std.proofs.Common.{◌≡◌, map, true, sym, subst}
use Rattle.std.specs.List.{list_all}
use Rattle.spec_ir.specs.Views.{specification}
use Rattle.abstract_value_laws.specs.Abs.{parts}
use Rattle.abstract_map.proofs.Whole.{if_ok}
use Rattle.domain_laws.specs.Entries.{LinesFit}
use Rattle.domain_laws.specs.States.{is_field}
use Rattle.domain_laws.specs.Values.{FieldsFit}
use Rattle.domain_laws.specs.Entry.{entry_values}
use Rattle.domain_laws.proofs.Domain.{fields_are, it_joins, states_are}
use Rattle.domain_laws.proofs.Entries.{values_fit}
use Rattle.domain_laws.proofs.Fields.{fields_told}
use Rattle.domain_laws.proofs.Lines.{all_fit}
use Rattle.abstract_value.specs.View.{abs}
use Rattle.domain_cells.specs.Views.{states_of}
use Rattle.domain_cells.proofs.domain.StateDomainDomain.entry.Goals as goal

pub entry_values-requires-clause-right : goal.entry_values-requires-clause-right
entry_values-requires-clause-right g c =
    subst (λ fs. list_all is_field fs ≡ true) (sym c.deref.ensures.value) (fields_are g.B.Base.algebra (states_of c.args.self.now) (specification c.args._spec.now) c.requires.made)

pub entry_values-requires-clause-lines : goal.entry_values-requires-clause-lines
entry_values-requires-clause-lines g c =
    rw (c.deref.ensures.value, c.deref-2.ensures.value) (subst (λ u. LinesFit u.fields c.args.e.now.lines.items) (sym (states_are g.B.Base.algebra (states_of c.args.self.now) (specification c.args._spec.now) c.requires.made)) c.requires.lines)

pub returns-clause-fits : goal.returns-clause-fits
returns-clause-fits g c =
    let B = g.B.Base.algebra in
    let ctx = c.args.self.now.ctx in
    let cap = g.B.Base.CAP in
    let t = states_of c.args.self.now in
    let spec = specification c.args._spec.now in
    let lines = c.args.e.now.lines.items in
    let fit : LinesFit t.fields lines = subst (λ u. LinesFit u.fields lines) (sym (states_are B t spec c.requires.made)) c.requires.lines in
    if_ok (λ r. parts (map abs r.items) ≡ entry_values B ctx cap lines 1 t.fields) (λ r. FieldsFit B ctx cap t.fields (parts (map abs r.items))) c.entry_values.result
    (λ r e. subst (FieldsFit B ctx cap t.fields) (sym e) (values_fit B g.met.B.Base.laws ctx cap lines (it_joins B t spec c.requires.made) 1 t.fields (fields_told t.fields (fields_are B t spec c.requires.made)) (all_fit t.fields lines fit)))
    (rw (c.deref.ensures.value, c.deref-2.ensures.value) at c.entry_values.ensures)

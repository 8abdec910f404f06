use Rattle.std.proofs.Common.{◌≡◌, map, sym, subst}
use Rattle.spec_ir.specs.Views.{specification}
use Rattle.abstract_value_laws.specs.Abs.{parts}
use Rattle.abstract_map.proofs.Whole.{if_ok}
use Rattle.domain_laws.specs.Values.{FieldsFit, IsStateValue}
use Rattle.domain_laws.specs.Calls.{fields_of}
use Rattle.domain_laws.proofs.Domain.{states_are}
use Rattle.domain_laws.proofs.Opened.{closed_fits}
use Rattle.abstract_value.specs.View.{abs}
use Rattle.domain_cells.specs.Views.{states_of}
use Rattle.domain_cells.proofs.domain.StateDomainDomain.close.Goals as goal

pub returns-clause-fits : goal.returns-clause-fits
returns-clause-fits g c =
    let B = g.B.Base.algebra in
    let ctx = c.args.self.now.ctx in
    let cap = g.B.Base.CAP in
    let t = states_of c.args.self.now in
    let value = abs c.args.value.now in
    let is : IsStateValue B ctx cap t value = subst (λ u. IsStateValue B ctx cap u value) (sym (states_are B t (specification c.args._spec.now) c.requires.made)) c.requires.state in
    if_ok (λ r. parts (map abs r.items) ≡ fields_of value) (λ r. FieldsFit B ctx cap t.fields (parts (map abs r.items))) c.close_state.result
    (λ r e. subst (FieldsFit B ctx cap t.fields) (sym e) (closed_fits B g.met.B.Base.laws ctx cap t value is)) c.close_state.ensures

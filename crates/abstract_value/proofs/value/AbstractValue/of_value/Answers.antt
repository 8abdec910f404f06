use Rattle.std.proofs.Common.{◌≡◌, sym, subst}
use Rattle.abstract_map_laws.proofs.Fitting.{room}
use Rattle.spec_ir.specs.Views.{specification}
use Rattle.semantics_values.specs.Types.{environment_of}
use Rattle.semantics_values.specs.Views.{val}
use Rattle.abstract_value_laws.specs.Fits.{Fits}
use Rattle.abstract_value_laws.specs.OfValues.{of_value}
use Rattle.abstract_value_laws.proofs.Concrete.{value_is_fit}
use Rattle.abstract_map.proofs.Whole.{if_ok}
use Rattle.abstract_value.specs.View.{abs}
use Rattle.abstract_value.proofs.value.AbstractValue.of_value.Goals as goal

pub returns-clause-fits : goal.returns-clause-fits
returns-clause-fits g c =
    let B = g.B.Base.algebra in
    let ctx = c.args.ctx.now in
    let cap = g.B.Base.CAP in
    let env = environment_of (specification c.args.spec.now) in
    let v = val c.args.v.now in
    if_ok (λ r. abs r ≡ of_value B ctx cap env v) (λ r. Fits B ctx cap (abs r)) c.of_value.result
    (λ r e. subst (λ x. Fits B ctx cap x) (sym e) (value_is_fit B g.met.B.Base.laws ctx cap env v (room B cap g.met.B.Base.capacity) c.requires.value)) c.of_value.ensures

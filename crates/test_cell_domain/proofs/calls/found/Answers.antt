use Rattle.std.proofs.Common.{sym, subst, arith}
use Rattle.spec_ir.specs.Views.{specification}
use Rattle.domain_laws.specs.States.{state_type}
use Rattle.domain_laws.specs.Values.{IsStateValue}
use Rattle.test_cell_domain.proofs.calls.found.Goals as goal

pub close-requires-clause-state : goal.close-requires-clause-state
close-requires-clause-state g c =
    let spec = specification c.args.spec.now in
    let laws = g.met.D.Domain.laws c.args.domain.now spec c.requires.made in
    subst (IsStateValue g.D.B.Base.algebra (g.D.Domain.meaning c.args.domain.now).context g.D.B.Base.CAP (state_type spec)) (sym c.in_ok-opened.ensures.value)
    (laws.open_fits 4096 (g.D.Domain.view c.args.x) (omega arith) c.requires.first)

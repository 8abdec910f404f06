use Rattle.abstract_value_laws.specs.Fits.{Fits}
use Rattle.abstract_value.specs.View.{abs}
use Rattle.test_value_text.proofs.Lists.{with_next}
use Rattle.test_evaluator.proofs.arguments.values.Goals as goal

pub loop-text-preserved : goal.loop-text-preserved
loop-text-preserved g c =
    (tt, tt, with_next (λ v. Fits g.B.Base.algebra c.args.ctx.now g.B.Base.CAP (abs v)) c.loop-text.out.items c.in_ok-out.out.items c.parameter-next.result c.parameter-next.ensures c.in_ok-out.ensures c.loop-text.invariant.2)

use Rattle.abstract_value_laws.specs.Fits.{Fits}
use Rattle.abstract_value.specs.View.{abs}
use Rattle.test_value_text.proofs.Lists.{with_next}
use Rattle.test_value_text.proofs.values.fields.Goals as goal

pub loop-part-preserved : goal.loop-part-preserved
loop-part-preserved g c =
    (tt, tt, with_next (λ v. Fits g.B.Base.algebra c.args.ctx.now g.B.Base.CAP (abs v)) c.loop-part.out.items c.in_ok-out.out.items c.field-next.result c.field-next.ensures c.in_ok-out.ensures c.loop-part.invariant.2)

use Rattle.abstract_value_laws.specs.Fits.{Fits}
use Rattle.domain_affine_base.specs.Meaning.{affine}
use Rattle.abstract_value.specs.View.{abs}
use Rattle.test_affine_text.proofs.Values.{all_with}
use Rattle.test_affine_text.proofs.changes.changed.Goals as goal

pub loop-change-preserved : goal.loop-change-preserved
loop-change-preserved c =
    (tt, tt, all_with (λ v. Fits affine c.args.ctx.now 256 (abs v)) c.loop-change.values.items c.in_ok-values.values.items c.change_of-next.result c.change_of-next.ensures c.in_ok-values.ensures c.loop-change.invariant.2)

use Rattle.spec_ir.specs.Views.{specification}
use Rattle.abstract_value.specs.View.{abs}
use Rattle.test_affine_text.proofs.Values.{opened_fits}
use Rattle.test_affine_text.proofs.changes.opened.Goals as goal

pub values_of-requires : goal.values_of-requires
values_of-requires c =
    opened_fits c.args.setting.now.domain.now (specification c.args.setting.now.spec.now) c.args.setting.now.ctx.now c.args.x.now (abs c.in_ok-state.state)
    c.requires.ready.made c.requires.ready.tracked c.requires.fits c.in_ok-state.ensures.value

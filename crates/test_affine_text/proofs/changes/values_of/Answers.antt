use Rattle.test_affine_text.proofs.Values.{constructors_fit}
use Rattle.test_affine_text.proofs.changes.values_of.Goals as goal

pub first_fields-requires : goal.first_fields-requires
first_fields-requires c = constructors_fit c.args.ctx.now c.args.state.now c.in-Data._ty c.in-Data.cases c.in-Data.is c.requires

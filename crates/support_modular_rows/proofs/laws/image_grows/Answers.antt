use Rattle.support_modular_rows.proofs.Closure.{image_grows}
use Rattle.support_modular_rows.proofs.laws.image_grows.Goals as goal

pub returns : goal.returns
returns c = image_grows

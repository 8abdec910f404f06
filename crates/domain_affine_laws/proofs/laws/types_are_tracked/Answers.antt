use Rattle.domain_affine_laws.proofs.Types.{types_are_tracked}
use Rattle.domain_affine_laws.proofs.laws.types_are_tracked.Goals as goal

pub returns : goal.returns
returns g = types_are_tracked

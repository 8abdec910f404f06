use Rattle.domain_affine_laws.proofs.Whole.{opens_whole_maps}
use Rattle.domain_affine_laws.proofs.laws.opens_whole_maps.Goals as goal

pub returns : goal.returns
returns g = opens_whole_maps

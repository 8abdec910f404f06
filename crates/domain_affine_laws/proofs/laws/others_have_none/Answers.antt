use Rattle.domain_affine_laws.proofs.Whole.{others_have_none}
use Rattle.domain_affine_laws.proofs.laws.others_have_none.Goals as goal

pub returns : goal.returns
returns g = others_have_none

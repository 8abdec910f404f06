use Rattle.domain_affine_laws.proofs.Domain.{affine_keeps_the_laws}
use Rattle.domain_affine_laws.proofs.laws.affine_keeps_the_laws.Goals as goal

pub returns : goal.returns
returns g = affine_keeps_the_laws

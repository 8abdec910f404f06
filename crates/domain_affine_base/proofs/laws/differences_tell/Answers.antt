use Rattle.domain_affine_base.proofs.Differences.{differences_tell as lemma}
use Rattle.domain_affine_base.proofs.laws.differences_tell.Goals as goal

pub returns : goal.returns
returns c = lemma

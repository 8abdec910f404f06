use Rattle.domain_affine_base.proofs.Exact.{exact_results as lemma}
use Rattle.domain_affine_base.proofs.laws.exact_results.Goals as goal

pub returns : goal.returns
returns c = lemma

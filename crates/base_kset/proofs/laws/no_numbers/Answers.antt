use Rattle.base_kset.proofs.Best.{no_numbers as lemma}
use Rattle.base_kset.proofs.laws.no_numbers.Goals as goal

pub returns : goal.returns
returns c = lemma

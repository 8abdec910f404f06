use Rattle.base_bits.proofs.Best.{best_shifts as lemma}
use Rattle.base_bits.proofs.laws.best_shifts.Goals as goal

pub returns : goal.returns
returns c = lemma

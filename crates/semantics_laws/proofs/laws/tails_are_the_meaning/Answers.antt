use Rattle.semantics_laws.proofs.Tailed.{tails_are_the_meaning}
use Rattle.semantics_laws.proofs.laws.tails_are_the_meaning.Goals as goal

pub returns : goal.returns
returns c = tails_are_the_meaning

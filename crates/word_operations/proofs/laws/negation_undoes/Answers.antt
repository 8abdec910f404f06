use Rattle.word_operations.proofs.ArithmeticLaws.{negation_undoes}
use Rattle.word_operations.proofs.laws.negation_undoes.Goals as goal

pub returns : goal.returns
returns c = negation_undoes

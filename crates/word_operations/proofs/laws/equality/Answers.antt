use Rattle.word_operations.proofs.OrderLaws.{equality}
use Rattle.word_operations.proofs.laws.equality.Goals as goal

pub returns : goal.returns
returns c = equality

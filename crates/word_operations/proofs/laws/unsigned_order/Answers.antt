use Rattle.word_operations.proofs.OrderLaws.{unsigned_order}
use Rattle.word_operations.proofs.laws.unsigned_order.Goals as goal

pub returns : goal.returns
returns c = unsigned_order

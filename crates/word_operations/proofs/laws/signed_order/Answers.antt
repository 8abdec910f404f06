use Rattle.word_operations.proofs.OrderLaws.{signed_order}
use Rattle.word_operations.proofs.laws.signed_order.Goals as goal

pub returns : goal.returns
returns c = signed_order

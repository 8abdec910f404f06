use Rattle.word_operations.proofs.DivisionLaws.{signed_remainder}
use Rattle.word_operations.proofs.laws.signed_remainder.Goals as goal

pub returns : goal.returns
returns c = signed_remainder

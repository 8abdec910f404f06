use Rattle.word_operations.proofs.ShiftLaws.{signed_right_shift}
use Rattle.word_operations.proofs.laws.signed_right_shift.Goals as goal

pub returns : goal.returns
returns c = signed_right_shift

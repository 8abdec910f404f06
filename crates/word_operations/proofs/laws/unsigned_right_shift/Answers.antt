use Rattle.word_operations.proofs.ShiftLaws.{unsigned_right_shift}
use Rattle.word_operations.proofs.laws.unsigned_right_shift.Goals as goal

pub returns : goal.returns
returns c = unsigned_right_shift

use Rattle.word_operations.proofs.ShiftLaws.{left_shift}
use Rattle.word_operations.proofs.laws.left_shift.Goals as goal

pub returns : goal.returns
returns c = left_shift

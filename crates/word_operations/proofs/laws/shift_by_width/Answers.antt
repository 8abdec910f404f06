use Rattle.word_operations.proofs.ShiftLaws.{shift_by_width}
use Rattle.word_operations.proofs.laws.shift_by_width.Goals as goal

pub returns : goal.returns
returns c = shift_by_width

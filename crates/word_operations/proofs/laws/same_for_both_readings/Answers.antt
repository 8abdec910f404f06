use Rattle.word_operations.proofs.ArithmeticLaws.{same_for_both_readings}
use Rattle.word_operations.proofs.laws.same_for_both_readings.Goals as goal

pub returns : goal.returns
returns c = same_for_both_readings

use Rattle.word_operations.proofs.BitLaws.{bit_by_bit}
use Rattle.word_operations.proofs.laws.bit_by_bit.Goals as goal

pub returns : goal.returns
returns c = bit_by_bit

use Rattle.word_operations.proofs.BitLaws.{rotation}
use Rattle.word_operations.proofs.laws.rotation.Goals as goal

pub returns : goal.returns
returns c = rotation

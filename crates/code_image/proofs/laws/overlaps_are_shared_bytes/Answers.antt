use Rattle.code_image.proofs.Words.{overlaps_are_shared_bytes}
use Rattle.code_image.proofs.laws.overlaps_are_shared_bytes.Goals as goal

pub returns : goal.returns
returns c = overlaps_are_shared_bytes

use Rattle.std.proofs.Common.{length}
use Rattle.program_machine.proofs.code.+segments_of.Given as goal

abbrev pub decreases-segments_of : goal.decreases-segments_of
decreases-segments_of g l = length l.parts.now

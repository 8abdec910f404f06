use Rattle.std.proofs.Common.{length}
use Rattle.abstract_map.proofs.abstract_maps.AbstractMap.+with_new.Given as goal

abbrev pub decreases-with_new : goal.decreases-with_new
decreases-with_new g l = length l.cells.now

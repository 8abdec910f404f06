use Rattle.std.proofs.Common.{length}
use Rattle.abstract_map.proofs.abstract_maps.AbstractMap.+joined_new.Given as goal

abbrev pub decreases-joined_new : goal.decreases-joined_new
decreases-joined_new g l = length l.cells.now

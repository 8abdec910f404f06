use Rattle.std.proofs.Common.{length}
use Rattle.abstract_map.proofs.abstract_maps.AbstractMap.+absorbs_at.Given as goal

abbrev pub decreases-absorbs_at : goal.decreases-absorbs_at
decreases-absorbs_at g l = length l.cells.now

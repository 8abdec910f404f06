use Rattle.std.proofs.Common.{length}
use Rattle.abstract_map.proofs.abstract_maps.AbstractMap.+merged_into.Given as goal

abbrev pub decreases-merged_into : goal.decreases-merged_into
decreases-merged_into g l = length l.cells.now

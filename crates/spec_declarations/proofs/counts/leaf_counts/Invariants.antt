use Rattle.std.proofs.Common.{◌≡◌, ◌+◌, length, map, true, cond}
use Rattle.spec_declarations.specs.Counts.{AreSound, AreSettled, uncounted}
use Rattle.spec_declarations.proofs.counts.leaf_counts.Given as goal

abbrev pub decreases-loop-is_done : goal.decreases-loop-is_done
decreases-loop-is_done l = uncounted l.counts.items + cond l.is_done 0 1

abbrev pub invariant-loop-is_done : goal.invariant-loop-is_done
invariant-loop-is_done l = record {
  width : length l.counts.items ≡ length l.graph;
  sound : AreSound (map (λ row. row.items) l.graph) l.own l.counts.items;
  settled : l.is_done ≡ true → AreSettled (map (λ row. row.items) l.graph) l.own l.counts.items (length l.graph);
}

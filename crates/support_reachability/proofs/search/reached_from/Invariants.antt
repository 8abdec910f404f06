use Rattle.std.proofs.Common.{◌+◌, length, map}
use Rattle.support_reachability.specs.Marks.{unmarked}
use Rattle.support_reachability.proofs.Searching.{IsSearch}
use Rattle.support_reachability.proofs.search.reached_from.Given as goal

abbrev pub decreases-loop-node : goal.decreases-loop-node
decreases-loop-node l = unmarked l.marks.items + length l.stack.items

abbrev pub invariant-loop-node : goal.invariant-loop-node
invariant-loop-node l = IsSearch (map (λ row. row.items) l.graph) l.from l.marks.items l.stack.items

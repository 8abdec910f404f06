use Rattle.std.proofs.Common.{◌≡◌, ◌≤◌, length, drop}
use Rattle.base_strides.specs.Meaning.{stop_below}
use Rattle.base_strides.proofs.stops.stop_below.Given as goal

abbrev pub invariant-loop-left : goal.invariant-loop-left
invariant-loop-left l = record { whole : stop_below (drop l.left l.stops) l.n ≡ l.best; few : l.left ≤ length l.stops; less : l.best ≤ l.n }

abbrev pub decreases-loop-left : goal.decreases-loop-left
decreases-loop-left l = l.left

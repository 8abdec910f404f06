use Rattle.std.proofs.Common.{◌≡◌, ◌≤◌, ◌<◌, ◌-◌, ◌^◌, length, drop}
use Rattle.base_strides.specs.Meaning.{stop_above}
use Rattle.base_strides.proofs.stops.stop_above.Given as goal

abbrev pub invariant-loop-left : goal.invariant-loop-left
invariant-loop-left l = record { whole : stop_above (2 ^ l.w - 1) (drop l.left l.stops) l.n ≡ l.best; few : l.left ≤ length l.stops; more : l.n ≤ l.best; fits : l.best < 2 ^ l.w }

abbrev pub decreases-loop-left : goal.decreases-loop-left
decreases-loop-left l = l.left

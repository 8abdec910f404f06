use Rattle.std.proofs.Common.{◌≡◌, take}
use Rattle.base_strides.proofs.context.StopsContext.copy.Given as goal

abbrev pub invariant-loop-stop : goal.invariant-loop-stop
invariant-loop-stop l = l.stops.items ≡ take l.stop-index l.stop-items

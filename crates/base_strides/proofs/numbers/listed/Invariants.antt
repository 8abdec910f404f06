use Rattle.std.proofs.Common.{◌≡◌}
use Rattle.base_strides.specs.Stretch.{by_steps}
use Rattle.base_strides.proofs.numbers.listed.Given as goal

abbrev pub invariant-loop-i : goal.invariant-loop-i
invariant-loop-i l = l.out.items ≡ by_steps l.x.lo l.x.step l.i

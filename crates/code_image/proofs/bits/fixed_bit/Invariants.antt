use Rattle.std.proofs.Common.{◌≡◌, ◌≤◌, ◌+◌, drop, length}
use Rattle.semantics.specs.Decode.{width_sum}
use Rattle.code_image.proofs.bits.fixed_bit.Given as goal

abbrev pub invariant-loop-i : goal.invariant-loop-i
invariant-loop-i l = record {
  place : l.n ≡ l.left + width_sum (drop l.i l.parts);
  within : l.i ≤ length l.parts;
}

abbrev pub decreases-loop-i : goal.decreases-loop-i
decreases-loop-i l = l.i

use Rattle.std.proofs.Common.{◌≡◌, ◌++◌}
use Rattle.spec_decode_rows.specs.Bits.{bits_of}
use Rattle.spec_decode_rows.proofs.bits.push_bits.Given as goal

abbrev pub invariant-loop-left : goal.invariant-loop-left
invariant-loop-left l = l.initial.out.items ++ bits_of l.v l.w ≡ l.out.items ++ bits_of l.v l.left

abbrev pub decreases-loop-left : goal.decreases-loop-left
decreases-loop-left l = l.left

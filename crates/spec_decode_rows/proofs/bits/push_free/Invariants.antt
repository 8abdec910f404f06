use Rattle.std.proofs.Common.{◌≡◌, ◌++◌, replicate, None}
use Rattle.spec_decode_rows.proofs.bits.push_free.Given as goal

abbrev pub invariant-loop-left : goal.invariant-loop-left
invariant-loop-left l = l.initial.out.items ++ replicate l.w None ≡ l.out.items ++ replicate l.left None

abbrev pub decreases-loop-left : goal.decreases-loop-left
decreases-loop-left l = l.left

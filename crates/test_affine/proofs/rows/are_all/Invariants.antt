use Rattle.std.proofs.Common.{◌≡◌}
use Rattle.test_affine.proofs.rows.are_all.Given as goal

abbrev pub invariant-loop-i : goal.invariant-loop-i
invariant-loop-i l = l.rows.k ≡ 64

abbrev pub invariant-loop-i-2 : goal.invariant-loop-i-2
invariant-loop-i-2 l = l.rows.k ≡ 64

use Rattle.std.proofs.Common.{◌≡◌}
use Rattle.test_affine.proofs.rows.all_hold.Given as goal

abbrev pub invariant-loop-step : goal.invariant-loop-step
invariant-loop-step l = l.rows.k ≡ l.k

use Rattle.std.proofs.Common.{◌≡◌, ℕ, ◌<◌, [], get_or}
use Rattle.support_modular_rows.proofs.slots.others_are_zero.Given as goal

abbrev pub invariant-loop-i : goal.invariant-loop-i
invariant-loop-i l = (j : ℕ) → 0 < j → j < l.i → get_or (get_or l.rows j []) l.column 0 ≡ 0

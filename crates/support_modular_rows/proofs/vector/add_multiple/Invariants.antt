use Rattle.std.proofs.Common.{◌≡◌, ℕ, ◌+◌, ◌*◌, ◌%◌, ◌^◌, ◌<◌, get_or, length}
use Rattle.support_modular_rows.proofs.vector.add_multiple.Given as goal

abbrev pub invariant-loop-i : goal.invariant-loop-i
invariant-loop-i l = record { size : length l.sum ≡ 65; done : (j : ℕ) → j < l.i → get_or l.sum j 0 ≡ (get_or l.x j 0 + l.q * get_or l.r j 0) % 2 ^ 32 }

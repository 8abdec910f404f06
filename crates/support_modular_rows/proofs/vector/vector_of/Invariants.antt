use Rattle.std.proofs.Common.{◌≡◌, ℕ, ◌<◌, get_or, length}
use Rattle.support_modular_rows.proofs.vector.vector_of.Given as goal

abbrev pub invariant-loop-i : goal.invariant-loop-i
invariant-loop-i l = record { size : length l.vector ≡ 65; done : (j : ℕ) → j < l.i → get_or l.vector j 0 ≡ get_or l.row j 0 }

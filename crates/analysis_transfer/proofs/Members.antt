-- Numbers that a word may be.
use Rattle.std.proofs.Common.{ℕ, zero, suc, ◌<◌, ◌^◌, List, [], ◌∷◌, length, slice_index_or, arith}
use Rattle.base_trait.specs.Lists.{Each}

pub below : (w : ℕ) (P : ℕ → Type 0) (ns : List ℕ) → Each (λ n. (n < 2 ^ w) × P n) ns → (k d : ℕ) → k < length ns → slice_index_or ns k d < 2 ^ w
below w P [] h k d lt = absurd (omega (arith, lt))
below w P (n ∷ ns) h zero d lt = h.0.0
below w P (n ∷ ns) h (suc k) d lt = below w P ns h.1 k d (omega (arith, lt))

-- The greatest number of a width.
use Rattle.std.proofs.Common.{◌≡◌, ℕ, ◌-◌, ◌^◌, ◌<◌, ◌≤◌, ◌==◌, false, inl, inr, sym, arith}
use Rattle.std.proofs.Math.Nat.{pow-le-pow_right}
use Rattle.std.proofs.lemmas.Bool.Decides.{eqb_tells}

-- no number of 64 bits is that of a greater width
pub past_greatest : (w n : ℕ) → 64 < w → n < 2 ^ 64 → false ≡ (n == 2 ^ w - 1)
past_greatest w n far small =
    let up : 2 ^ 65 ≤ 2 ^ w = pow-le-pow_right {n = 2} (omega arith) {i = 65} {j = w} (omega (arith, far)) in
    elim (eqb_tells n (2 ^ w - 1)) [
      | inl same ↦ absurd (omega (arith, up, small, same.1))
      | inr other ↦ sym other.0
    ]

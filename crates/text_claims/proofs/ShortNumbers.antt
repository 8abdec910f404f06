-- Eight hex digits write a number of 32 bits.
use Rattle.std.proofs.Common.{◌≡◌, ◌∙◌, ℕ, zero, suc, ◌+◌, ◌*◌, ◌<◌, ◌≤◌, ◌^◌, Bool, true, false, List, [], ◌∷◌, Option, Some, None, length, refl, sym, ap, subst, arith}
use Rattle.std.specs.Prelude.{◌&&◌, nat_lt, nat_le, if◌then◌else◌}
use Rattle.std.specs.Char.{digit_value}
use Rattle.std.proofs.lemmas.Bool.{leb-true, ltb-true}
use Rattle.std.proofs.Math.Nat.{mul-le-mul_right, pow-le-pow_right, pow-succ'}
use Rattle.base_trait.proofs.Tests.{and_parts}
use Rattle.state_cell_text.specs.Digits.{hex_from, hex_number}

-- one digit more
more : (high d n v : ℕ) → d < 16 → v < (high * 16 + d + 1) * 16 ^ n → v < (high + 1) * 16 ^ suc n
more high d n v digit less =
    let grows : (high * 16 + d + 1) * 16 ^ n ≤ (high + 1) * 16 * 16 ^ n = mul-le-mul_right (16 ^ n) (omega (arith, digit)) in
    let next = pow-succ' 16 n in
    let same : (high + 1) * 16 ^ suc n ≡ (high + 1) * 16 * 16 ^ n = ap (λ x. (high + 1) * x) next ∙ omega arith in
    omega (arith, grows, same, less)

-- digits behind a number make it at most so many times as great
hex_below : (high : ℕ) (bytes : List ℕ) (v : ℕ) → hex_from high bytes ≡ Some v → v < (high + 1) * 16 ^ length bytes
hex_below high [] v h = let same : high ≡ v = cc in omega (arith, same)
hex_below high (b ∷ bytes) v h = by_test high b bytes v (λ g. hex_below (high * 16 + digit_value b) bytes v g) h (nat_lt (digit_value b) 16) refl where
  by_test : (high b : ℕ) (bytes : List ℕ) (v : ℕ) → (hex_from (high * 16 + digit_value b) bytes ≡ Some v → v < (high * 16 + digit_value b + 1) * 16 ^ length bytes)
      → hex_from high (b ∷ bytes) ≡ Some v → (c : Bool) → nat_lt (digit_value b) 16 ≡ c → v < (high + 1) * 16 ^ length (b ∷ bytes)
  by_test high b bytes v ih h false e = let s = rw e at h in cc
  by_test high b bytes v ih h true e = more high (digit_value b) (length bytes) v (ltb-true (digit_value b) 16 e) (ih (rw e at h))

pub short_below : (text : List ℕ) (v : ℕ) → hex_number 8 text ≡ Some v → v < 2 ^ 32
short_below text v h = by_test (nat_lt 0 (length text) && nat_le (length text) 8) refl where
  by_test : (b : Bool) → (nat_lt 0 (length text) && nat_le (length text) 8) ≡ b → v < 2 ^ 32
  by_test false e = let s = rw e at h in cc
  by_test true e =
      let few = leb-true (length text) 8 (and_parts (nat_lt 0 (length text)) (nat_le (length text) 8) e).1 in
      let below = hex_below 0 text v (rw e at h) in
      let most : 16 ^ length text ≤ 16 ^ 8 = pow-le-pow_right {n = 16} (omega arith) {i = length text} {j = 8} few in
      omega (arith, below, most)

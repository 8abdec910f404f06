-- The measure of the functions of terms falls at each call: a thousand for each level, and an order within one.
use Rattle.std.proofs.Common.{◌≡◌, ℕ, ◌+◌, ◌-◌, ◌*◌, ◌<◌, ◌≤◌, arith}

-- a function that comes earlier in the order
pub earlier : (d j k t : ℕ) → j < k → 1000 * d + k ≡ t → 1000 * d + j < t
earlier d j k t less e = omega arith

-- the function of terms, which comes first
pub first : (d k t : ℕ) → 0 < k → 1000 * d + k ≡ t → 1000 * d < t
first d k t some e = omega arith

module _ (d t : ℕ) where
  pub body_falls : 0 < d → 1000 * d ≡ t → 1000 * (d - 1) + 999 < t
  body_falls some e = omega arith

  pub level_of_body_falls : 1000 * d + 999 ≡ t → 1000 * d + 300 + 8 < t
  level_of_body_falls e = omega arith

  pub unary_falls : (p : ℕ) → 1000 * d + 300 + p ≡ t → 1000 * d + 8 + 257 < t
  unary_falls p e = omega arith

  pub level_falls : (p : ℕ) → 0 < p → 1000 * d + 300 + p ≡ t → 1000 * d + 300 + (p - 1) < t
  level_falls p some e = omega arith

  pub post_falls : (n : ℕ) → 1000 * d + 8 + n ≡ t → 1000 * d + 7 < t
  post_falls n e = omega arith

  pub turn_falls : (n : ℕ) → 0 < n → 1000 * d + 8 + n ≡ t → 1000 * d + 8 + (n - 1) < t
  turn_falls n some e = omega arith

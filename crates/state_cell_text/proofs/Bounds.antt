-- Numbers of at most 16 hex digits, and of a width.
use Rattle.std.proofs.Common.{◌≡◌, ◌+◌, ◌*◌, ◌<◌, ◌≤◌, ◌^◌, ℕ, arith, ◌/◌, ◌%◌, nat_le, nat_lt, nat_eq, refl}
use Rattle.std.proofs.Math.Nat.{pow-le-pow_right, div-lt_iff_lt-mul, div-eq_of_lt, one-le-pow}
use Rattle.std.proofs.lemmas.Bool.Decides.{nat_tests}
use Rattle.spec_ir.proofs.Checks.{fits_past as wide}

-- one more digit has room
pub room : (i value : ℕ) → value < 16 ^ i → i < 16 → value * 16 + 16 ≤ 2 ^ 64
room i value small few =
    let up : 16 ^ i ≤ 16 ^ 15 = pow-le-pow_right {n = 16} (omega arith) {i = i} {j = 15} (omega arith) in
    omega (arith, up)

pub narrow : (value width : ℕ) → nat_eq (value / 2 ^ width) 0 ≡ nat_lt value (2 ^ width)
narrow value width =
    let some : 1 ≤ 2 ^ width = one-le-pow width 2 (omega arith) in
    let both = div-lt_iff_lt-mul {k = 2 ^ width} {x = value} {y = 1} some in
    grind (arith, nat_tests, both, some)

-- the digits past those of a number are 0
pub far_digit : (value place : ℕ) → value < 2 ^ 64 → 16 ≤ place → 0 ≡ value / 2 ^ (4 * place) % 16
far_digit value place small far =
    let up : 2 ^ 64 ≤ 2 ^ (4 * place) = pow-le-pow_right {n = 2} (omega arith) {i = 64} {j = 4 * place} (omega arith) in
    let none : value / 2 ^ (4 * place) ≡ 0 = div-eq_of_lt (omega (arith, small, up)) in
    rw none refl

-- a number of 64 bits is at most a power past it
pub at_most_wide : (n w : ℕ) → n < 2 ^ 64 → 64 ≤ w → nat_le 64 w ≡ nat_le n (2 ^ w)
at_most_wide n w small wide =
    let up : 2 ^ 64 ≤ 2 ^ w = pow-le-pow_right {n = 2} (omega arith) {i = 64} {j = w} wide in
    grind (arith, nat_tests, up, wide)

-- In what a quotient grows.
use Rattle.std.proofs.Common.{ℕ, ◌/◌, ◌<◌, ◌≤◌, arith, div-mul-le_self, mul-le-mul_left}
use Rattle.std.proofs.lemmas.Nat.{le-div}

-- it grows in the dividend, and falls in the divisor
pub quotient_mono : (m m' n n' : ℕ) → m ≤ m' → n' ≤ n → 0 < n' → m / n ≤ m' / n'
quotient_mono m m' n n' more less positive =
    let whole = div-mul-le_self m n in
    let part = mul-le-mul_left (m / n) less in
    le-div (m / n) m' n' positive (omega arith)

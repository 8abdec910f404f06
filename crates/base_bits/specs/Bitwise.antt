-- Lemmas: numbers bit by bit.
use Rattle.std.proofs.Common.{◌≡◌, ℕ, zero, suc, ◌+◌, ◌-◌, ◌*◌, ◌^◌, ◌<◌, ◌⊎◌, inl, inr, ap, ◌∙◌, arith, pow_pos, bit_and}
use Rattle.std.specs.Int.{bit_at}
use Rattle.std.proofs.lemmas.Bool.{cases_lt}
use Rattle.std.proofs.lemmas.Nat.{and-not, and_comm, pow_below}
use Rattle.std.proofs.lemmas.Nat.Bits.{and_pow, bit_at-lt, bit_at_and, bit_at_above}
use Rattle.base_bits.specs.Known.{without}

-- a bit is 0 or 1
pub bit_cases : (n i : ℕ) → (bit_at n i ≡ 0) ⊎ (bit_at n i ≡ 1)
bit_cases n i =
    elim (cases_lt (bit_at n i) 1) [ inl low ↦ inl (omega arith) | inr high ↦ inr (omega (arith, bit_at-lt n i)) ]

-- a number is below a power of two
pub below_power : (n : ℕ) → n < 2 ^ n
below_power zero = omega arith
below_power (suc n) = let more = below_power n in omega (arith, more)

-- the bits of 2 ^ k - 1 - m are those of m, turned
pub turned_bit : (k m i : ℕ) → i < k → m < 2 ^ k → bit_at (2 ^ k - 1 - m) i ≡ 1 - bit_at m i
turned_bit k m i within below =
    let halves = and-not k m (2 ^ i) below (pow_below i k within) in
    let some : 0 < 2 ^ i = pow_pos i in
    let left = and_pow (2 ^ k - 1 - m) i in
    let right = and_pow m i in
    elim (bit_cases m i) [
      | inl clear ↦ elim (bit_cases (2 ^ k - 1 - m) i) [
        | inl none ↦ absurd (let a = ap (λ b. b * 2 ^ i) clear in let c = ap (λ b. b * 2 ^ i) none in omega (arith, halves, left, right, a, c, some))
        | inr one ↦ omega (arith, clear, one)
      ]
      | inr set ↦ elim (bit_cases (2 ^ k - 1 - m) i) [
        | inl none ↦ omega (arith, set, none)
        | inr one ↦ absurd (let a = ap (λ b. b * 2 ^ i) set in let c = ap (λ b. b * 2 ^ i) one in omega (arith, halves, left, right, a, c, some))
      ]
    ]

-- the bits of n that are none of m
pub without_bit : (n m i : ℕ) → bit_at (without n m) i ≡ bit_at n i - bit_at m i
without_bit n m i =
    let k = n + m in
    let less : n < 2 ^ k = omega (arith, below_power k) in
    let small : m < 2 ^ k = omega (arith, below_power k) in
    let halves = and-not k m n small less in
    let is : without n m ≡ bit_and (2 ^ k - 1 - m) n = omega (arith, halves, and_comm n m) in
    ap (λ z. bit_at z i) is ∙ bit_at_and (2 ^ k - 1 - m) n i ∙
    elim (cases_lt i k) [
      | inl within ↦ omega (arith, turned_bit k m i within small, bit_at-lt n i, bit_at-lt m i)
      | inr past ↦ omega (arith, bit_at_above n k i less past)
    ]

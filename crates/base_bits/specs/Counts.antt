-- Lemmas: numbers of set bits.
use Rattle.std.proofs.Common.{◌≡◌, ◌≢◌, ℕ, zero, suc, ◌+◌, ◌*◌, ◌%◌, ◌^◌, ◌<◌, ◌≤◌, inl, inr, sym, ap, subst, ◌∙◌, arith, pow_pos, mod-lt, mod-eq_of_lt}
use Rattle.std.specs.Prelude.{count_ones}
use Rattle.std.specs.Int.{bit_at}
use Rattle.std.proofs.lemmas.Bool.{cases_lt}
use Rattle.std.proofs.lemmas.Nat.{mod-pow-add, ones_cat, ones_le_self, zero_from_ones}
use Rattle.std.proofs.lemmas.Nat.Bits.{same_from_bits_below}
use Rattle.base_bits.specs.Bitwise.{bit_cases}

pub ones_zero : count_ones 0 ≡ 0
ones_zero = omega (arith, ones_le_self 0)

ones_one : count_ones 1 ≡ 1
ones_one =
    elim (cases_lt (count_ones 1) 1) [
      | inl none ↦ absurd (let is : 1 ≡ 0 = zero_from_ones 1 (omega (arith, none)) in omega (arith, is))
      | inr some ↦ omega (arith, some, ones_le_self 1)
    ]

-- a number of one bit has as many set bits as it is
ones_bit : (n i : ℕ) → count_ones (bit_at n i) ≡ bit_at n i
ones_bit n i =
    elim (bit_cases n i) [
      | inl clear ↦ ap count_ones clear ∙ ones_zero ∙ sym clear
      | inr set ↦ ap count_ones set ∙ ones_one ∙ sym set
    ]

-- the lowest i + 1 bits are the lowest i and bit i
pub low_more : (n i : ℕ) → n % 2 ^ (i + 1) ≡ bit_at n i * 2 ^ i + n % 2 ^ i
low_more n i =
    let next : i + 1 ≡ 1 + i = omega arith in
    ap (λ k. n % 2 ^ k) next ∙ mod-pow-add n 1 i

pub count_more : (n i : ℕ) → count_ones (n % 2 ^ (i + 1)) ≡ bit_at n i + count_ones (n % 2 ^ i)
count_more n i =
    ap count_ones (low_more n i) ∙ ones_cat i (bit_at n i) (n % 2 ^ i) (mod-lt n (pow_pos i))
    ∙ ap (λ k. k + count_ones (n % 2 ^ i)) (ones_bit n i)

-- a number whose bits are at most another's has no more of them, and as many only where they are the same
module _ (a b : ℕ) (h : (i : ℕ) → bit_at a i ≤ bit_at b i) where
  count_low : (k : ℕ) → (count_ones (a % 2 ^ k) ≤ count_ones (b % 2 ^ k)) × (count_ones (a % 2 ^ k) ≡ count_ones (b % 2 ^ k) → (i : ℕ) → i < k → bit_at a i ≡ bit_at b i)
  count_low zero = (let first = no_bits a in let second = no_bits b in omega (arith, first, second), λ e i l. absurd (omega (arith, l)))
    where
      no_bits : (n : ℕ) → count_ones (n % 2 ^ 0) ≡ 0
      no_bits n = let none : n % 2 ^ 0 ≡ 0 = omega arith in ap count_ones none ∙ ones_zero
  count_low (suc k) =
      let below = count_low k in
      let first = more a in
      let second = more b in (
        let less = below.0 in omega (arith, less, first, second, h k),
        λ e i l.
            let less = below.0 in
            let top : bit_at a k ≡ bit_at b k = omega (arith, less, first, second, h k, e) in
            let rest : count_ones (a % 2 ^ k) ≡ count_ones (b % 2 ^ k) = omega (arith, less, first, second, h k, e) in
            elim (cases_lt i k) [
              | inl within ↦ below.1 rest i within
              | inr past ↦ let here : k ≡ i = omega (arith, past, l) in subst (λ j. bit_at a j ≡ bit_at b j) here top
            ],
      )
    where
      more : (n : ℕ) → count_ones (n % 2 ^ suc k) ≡ bit_at n k + count_ones (n % 2 ^ k)
      more n = let next : suc k ≡ k + 1 = omega arith in ap (λ j. count_ones (n % 2 ^ j)) next ∙ count_more n k

  pub count_le : (w : ℕ) → a < 2 ^ w → b < 2 ^ w → count_ones a ≤ count_ones b
  count_le w left right =
      let less = (count_low w).0 in
      let first = ap count_ones (mod-eq_of_lt left) in
      let second = ap count_ones (mod-eq_of_lt right) in
      omega (arith, less, first, second)

  pub count_less : (w : ℕ) → a < 2 ^ w → b < 2 ^ w → a ≢ b → count_ones a < count_ones b
  count_less w left right apart =
      elim (cases_lt (count_ones a) (count_ones b)) [
        | inl less ↦ less
        | inr more ↦
            let first = ap count_ones (mod-eq_of_lt left) in
            let second = ap count_ones (mod-eq_of_lt right) in
            let all = count_le w left right in
            let same : count_ones (a % 2 ^ w) ≡ count_ones (b % 2 ^ w) = omega (arith, first, second, all, more) in
            absurd (apart (same_from_bits_below w a b left right (λ i l. (count_low w).1 same i l)))
      ]

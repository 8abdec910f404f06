-- The bits of results.
use Rattle.std.proofs.Common.{◌≡◌, ℕ, ◌+◌, ◌-◌, ◌*◌, ◌/◌, ◌%◌, ◌^◌, ◌<◌, ◌≤◌, ◌⊎◌, ◌↔◌, bit_and, bit_or, bit_xor, IsBitSet, ap, sym, ◌∙◌, inl, inr, arith, pow_pos, mod-lt, mod-eq_of_lt, add_comm}
use Rattle.std.proofs.Math.Nat.{add-mod-mod, add-mod_right}
use Rattle.std.specs.Int.{bit_at}
use Rattle.std.proofs.lemmas.Bool.{cases_lt}
use Rattle.std.proofs.lemmas.Nat.{and-not, shr-shr, shr_split, pow_below}
use Rattle.std.proofs.lemmas.Nat.Bits.{and_pow, bit_at-lt, bit_at_and, bit_at_or, bit_at_xor, bit_at_above, bit_at_cat_low, bit_at_cat_high}
use Rattle.word_operations.specs.Laws.{BitByBit, Rotation, Truncation}
use Rattle.word_operations.specs.Op2.{rotated}
use Rattle.word_operations.proofs.Powers.{rotated_split, high_below}

bit_cases : (n i : ℕ) → (bit_at n i ≡ 0) ⊎ (bit_at n i ≡ 1)
bit_cases n i =
    elim (cases_lt (bit_at n i) 1) [ inl low ↦ inl (omega arith) | inr high ↦ inr (omega (arith, bit_at-lt n i)) ]

-- a bit is set where it is 1
pub set_one : (n i : ℕ) → IsBitSet n i → bit_at n i ≡ 1
set_one n i set =
    elim (bit_cases n i) [
      | inl clear ↦ absurd (set (and_pow n i ∙ ap (λ b. b * 2 ^ i) clear ∙ omega arith))
      | inr one ↦ one
    ]

pub one_set : (n i : ℕ) → bit_at n i ≡ 1 → IsBitSet n i
one_set n i one none =
    let product : bit_at n i * 2 ^ i ≡ 1 * 2 ^ i = ap (λ b. b * 2 ^ i) one in
    omega (arith, and_pow n i, pow_pos i)

zero_clear : (n i : ℕ) → bit_at n i ≡ 0 → ¬ IsBitSet n i
zero_clear n i zero set = omega (arith, set_one n i set)

clear_zero : (n i : ℕ) → ¬ IsBitSet n i → bit_at n i ≡ 0
clear_zero n i clear = elim (bit_cases n i) [ inl zero ↦ zero | inr one ↦ absurd (clear (one_set n i one)) ]

-- equal bits are set together
pub same_bit : (m n i j : ℕ) → bit_at m i ≡ bit_at n j → IsBitSet m i ↔ IsBitSet n j
same_bit m n i j same =
    ((λ set. one_set n j (sym same ∙ set_one m i set)), (λ set. one_set m i (same ∙ set_one n j set)))

and_bit : (x y i : ℕ) → IsBitSet (bit_and x y) i ↔ (IsBitSet x i × IsBitSet y i)
and_bit x y i = (
  (λ set.
      let one = set_one (bit_and x y) i set in
      (one_set x i (omega (arith, bit_at_and x y i, bit_at-lt x i, one)), one_set y i (omega (arith, bit_at_and x y i, bit_at-lt y i, one)))),
  (λ both. one_set (bit_and x y) i (omega (arith, bit_at_and x y i, set_one x i both.0, set_one y i both.1))),
)

or_bit : (x y i : ℕ) → IsBitSet (bit_or x y) i ↔ (IsBitSet x i ⊎ IsBitSet y i)
or_bit x y i = (
  (λ set.
      let one = set_one (bit_or x y) i set in
      elim (bit_cases x i) [
        | inl zero ↦ inr (one_set y i (omega (arith, bit_at_or x y i, one)))
        | inr first ↦ inl (one_set x i first)
      ]),
  (λ one. elim one [
    | inl first ↦ one_set (bit_or x y) i (omega (arith, bit_at_or x y i, set_one x i first, bit_at-lt y i))
    | inr second ↦ one_set (bit_or x y) i (omega (arith, bit_at_or x y i, set_one y i second, bit_at-lt x i))
  ]),
)

xor_bit : (x y i : ℕ) → IsBitSet (bit_xor x y) i ↔ ((IsBitSet x i × (¬ IsBitSet y i)) ⊎ ((¬ IsBitSet x i) × IsBitSet y i))
xor_bit x y i = (
  (λ set.
      let one = set_one (bit_xor x y) i set in
      elim (bit_cases x i) [
        | inl zero ↦ inr (zero_clear x i zero, one_set y i (omega (arith, bit_at_xor x y i, one, bit_at-lt y i)))
        | inr first ↦ inl (one_set x i first, zero_clear y i (omega (arith, bit_at_xor x y i, one, bit_at-lt y i)))
      ]),
  (λ one. elim one [
    | inl first ↦ one_set (bit_xor x y) i (omega (arith, bit_at_xor x y i, set_one x i first.0, clear_zero y i first.1))
    | inr second ↦ one_set (bit_xor x y) i (omega (arith, bit_at_xor x y i, clear_zero x i second.0, set_one y i second.1))
  ]),
)

not_bit : (w x i : ℕ) → i < w → x < 2 ^ w → IsBitSet (2 ^ w - 1 - x) i ↔ (¬ IsBitSet x i)
not_bit w x i within below =
    let halves = and-not w x (2 ^ i) below (pow_below i w within) in
    let some : 0 < 2 ^ i = pow_pos i in (
      (λ set old.
          let one : bit_at x i * 2 ^ i ≡ 1 * 2 ^ i = ap (λ b. b * 2 ^ i) (set_one x i old) in
          set (omega (arith, halves, and_pow x i))),
      (λ clear none.
          let zero : bit_at x i * 2 ^ i ≡ 0 * 2 ^ i = ap (λ b. b * 2 ^ i) (clear_zero x i clear) in
          omega (arith, halves, and_pow x i)),
    )

pub bit_by_bit : BitByBit
bit_by_bit w x y i within left right = (and_bit x y i, or_bit x y i, xor_bit x y i, not_bit w x i within left)

bit_at-mod : (x k i : ℕ) → i < k → bit_at (x % 2 ^ k) i ≡ bit_at x i
bit_at-mod x k i within = sym (bit_at_cat_low (x / 2 ^ k) k (x % 2 ^ k) i within) ∙ ap (λ n. bit_at n i) (shr_split x k)

bit_at-div : (x k i : ℕ) → bit_at (x / 2 ^ k) i ≡ bit_at x (i + k)
bit_at-div x k i = ap (λ n. n % 2) (shr-shr x k i ∙ ap (λ n. x / 2 ^ n) (add_comm k i))

-- a bit that does not pass the top
moved_up : (w x n i : ℕ) → n ≤ w → x < 2 ^ w → i + n < w → bit_at (rotated w x n) (i + n) ≡ bit_at x i
moved_up w x n i within below up =
    let back : i + n - n ≡ i = omega arith in
    ap (λ k. bit_at k (i + n)) (rotated_split w x n within)
    ∙ bit_at_cat_high (x % 2 ^ (w - n)) n (x / 2 ^ (w - n)) (i + n) (high_below w x n within below) (omega arith)
    ∙ ap (bit_at (x % 2 ^ (w - n))) back
    ∙ bit_at-mod x (w - n) i (omega arith)

-- a bit that comes in at the bottom
moved_round : (w x n i : ℕ) → n ≤ w → w ≤ i + n → i < w → bit_at (rotated w x n) (i + n - w) ≡ bit_at x i
moved_round w x n i within round below =
    let back : i + n - w + (w - n) ≡ i = omega arith in
    ap (λ k. bit_at k (i + n - w)) (rotated_split w x n within)
    ∙ bit_at_cat_low (x % 2 ^ (w - n)) n (x / 2 ^ (w - n)) (i + n - w) (omega arith)
    ∙ bit_at-div x (w - n) (i + n - w)
    ∙ ap (bit_at x) back

pub rotation : Rotation
rotation w x y i below within =
    let n = y % w in
    let less : n < w = mod-lt y (omega arith) in
    let place : (i + y) % w ≡ (i + n) % w = sym (add-mod-mod i y w) in
    same_bit (rotated w x n) x ((i + y) % w) i
    (elim (cases_lt (i + n) w) [
      | inl up ↦ ap (bit_at (rotated w x n)) (place ∙ mod-eq_of_lt up) ∙ moved_up w x n i (omega arith) below up
      | inr round ↦
          let split : i + n ≡ i + n - w + w = omega arith in
          let rest : (i + n) % w ≡ i + n - w = ap (λ k. k % w) split ∙ add-mod_right (i + n - w) w ∙ mod-eq_of_lt (omega arith) in
          ap (bit_at (rotated w x n)) (place ∙ rest) ∙ moved_round w x n i (omega arith) round within
    ])

pub truncation : Truncation
truncation from to x i narrows below = (
  (λ within. same_bit (x % 2 ^ to) x i i (bit_at-mod x to i within)),
  (λ above. zero_clear (x % 2 ^ to) i (bit_at_above (x % 2 ^ to) to i (mod-lt x (pow_pos to)) above)),
)

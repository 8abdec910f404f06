-- Lemmas: comparisons.
use Rattle.std.proofs.Common.{◌≡◌, ℕ, ◌-◌, ◌*◌, ◌^◌, ◌<◌, ◌≤◌, min, max, Bool, true, false, inl, inr, refl, sym, ap, subst, ◌∙◌, arith, bit_and, bit_or, bit_xor, IsTrue, ◌≤ℤ◌}
use Rattle.std.specs.Prelude.{◌==◌, ◌&&◌, not}
use Rattle.std.specs.Int.{bit_at}
use Rattle.std.proofs.lemmas.Bool.{cases_lt}
use Rattle.std.proofs.lemmas.Bool.Decides.{nat_tests}
use Rattle.std.proofs.lemmas.Int.{ints}
use Rattle.std.proofs.lemmas.Nat.{and_le_r, or_lt, pow_below}
use Rattle.std.proofs.lemmas.Nat.Bits.{bit_at-lt, bit_at-zero, bit_at_and, bit_at_or, bit_at_xor, bit_at_above, bit_at-pow_same, bit_at-pow_other, same_from_bits}
use Rattle.word_operations.specs.Cmp.{cmp_of}
use Rattle.word_operations.specs.Laws.{OrdersWords}
use Rattle.word_operations.specs.Signed.{signed}
use Rattle.word_operations.specs.declared.kinds.WordComparison.{WordComparison}
use Rattle.word_operations.specs.declared.kinds.WordComparison.TheVariants.{Eq, Ne, LtU, LeU, LtS, LeS}
use Rattle.word_operations.specs.Width.{IsWidth}
use Rattle.word_operations.proofs.Bounds.{signed_mono, signed_apart}
use Rattle.word_operations.proofs.OrderLaws.{unsigned_order, signed_order}
use Rattle.base_trait.specs.Algebra.{can_be}
use Rattle.base_trait.specs.declared.tri.Tri.{Tri}
use Rattle.base_trait.proofs.Lists.{number_told}
use Rattle.base_trait.proofs.Tests.{and_parts}
use Rattle.base_bits.specs.declared.known.Known.{Known}
use Rattle.base_bits.specs.Known.{without, greatest, Describes, Fits, is_exact}
use Rattle.base_bits.specs.Bitwise.{bit_cases, without_bit}
use Rattle.base_bits.specs.Compare.{equal_of, turned, signed_ends, compared}
use Rattle.base_bits.specs.Describing.{known_bit, exact_only, above_least, below_greatest, greatest_bit, le_from_bits, without_le}
use Rattle.base_bits.specs.Moves.{sign_clear, sign_set}

-- ---- equality
module _ (w m n : ℕ) (x y : Known) (d : Describes w m x) (e : Describes w n y) where
  equal_may : m ≡ n → IsTrue (without (bit_xor x.v y.v) (bit_or x.m y.m) == 0)
  equal_may same = subst (λ z. IsTrue (z == 0)) (sym none) refl
    where
      none : without (bit_xor x.v y.v) (bit_or x.m y.m) ≡ 0
      none = same_from_bits (without (bit_xor x.v y.v) (bit_or x.m y.m)) 0 (λ i.
          let is = without_bit (bit_xor x.v y.v) (bit_or x.m y.m) i in
          let either = bit_at_or x.m y.m i in
          let differ = bit_at_xor x.v y.v i in
          let nothing = bit_at-zero i in
          elim (bit_cases x.m i) [
            | inl first ↦ elim (bit_cases y.m i) [
              | inl second ↦ let left = known_bit w m x d i first in let right = known_bit w n y e i second in let here = ap (λ z. bit_at z i) same in omega (arith, is, differ, nothing, left, right, here)
              | inr second ↦ omega (arith, is, either, differ, nothing, second)
            ]
            | inr first ↦ omega (arith, is, either, differ, nothing, first)
          ])

  differ_may : (m == n) ≡ false → IsTrue (not (is_exact x && (is_exact y && (x.v == y.v))))
  differ_may apart = at (is_exact x && (is_exact y && (x.v == y.v))) refl
    where
      at : (b : Bool) → b ≡ (is_exact x && (is_exact y && (x.v == y.v))) → IsTrue (not b)
      at false h = refl
      at true h =
          let first = and_parts (is_exact x) (is_exact y && (x.v == y.v)) (sym h) in
          let second = and_parts (is_exact y) (x.v == y.v) first.1 in
          let left = exact_only w m x (number_told x.m 0 first.0) d in
          let right = exact_only w n y (number_told y.m 0 second.0) e in
          let here = number_told x.v y.v second.1 in
          let same : m ≡ n = omega (arith, left, right, here) in
          absurd (grind (arith, nat_tests))

  equal_sound : (b : Bool) → b ≡ (m == n) → IsTrue (can_be (equal_of x y) b)
  equal_sound true h = equal_may (number_told m n (sym h))
  equal_sound false h = differ_may (sym h)

turned_sound : (t : Tri) (b : Bool) → IsTrue (can_be t b) → IsTrue (can_be (turned t) (not b))
turned_sound t true h = h
turned_sound t false h = h

-- ---- orders
negated : (b : Bool) → not b ≡ false → IsTrue b
negated true h = refl
negated false h = cc

opposite : (b : Bool) → (IsTrue b → ⊥) → IsTrue (not b)
opposite true h = absurd (h refl)
opposite false h = refl

denied : (b : Bool) → b ≡ false → IsTrue b → ⊥
denied true h k = cc
denied false h k = cc

-- between ends in an order, a comparison may be what it is of the ends
module _ (w : ℕ) (le lt : ℕ → ℕ → Bool) (order : OrdersWords w le lt) (a m b c n d : ℕ)
    (am : IsTrue (le a m)) (mb : IsTrue (le m b)) (cn : IsTrue (le c n)) (nd : IsTrue (le n d)) where
  le_sound : (r : Bool) → r ≡ le m n → IsTrue (can_be (record { may_true = le a d; may_false = not (le b c) }) r)
  le_sound true h = order.transitive a m d am (order.transitive m n d (sym h) nd)
  le_sound false h = opposite (le b c) (λ k. denied (le m n) (sym h) (order.transitive m c n (order.transitive m b c mb k) cn))

  lt_sound : (r : Bool) → r ≡ lt m n → IsTrue (can_be (record { may_true = lt a d; may_false = not (lt b c) }) r)
  lt_sound true h = subst IsTrue (sym (order.strict a d)) (opposite (le d a) (λ k.
      denied (not (le n m)) (turn (le n m) (order.transitive n a m (order.transitive n d a nd k) am)) (subst IsTrue (order.strict m n) (sym h))))
    where
      turn : (q : Bool) → IsTrue q → not q ≡ false
      turn true k = refl
      turn false k = cc
  lt_sound false h =
      let back : IsTrue (le n m) = negated (le n m) (sym (order.strict m n) ∙ sym h) in
      opposite (lt b c) (λ k.
      denied (not (le c b)) (turn (le c b) (order.transitive c n b cn (order.transitive n m b back mb))) (subst IsTrue (order.strict b c) k))
    where
      turn : (q : Bool) → IsTrue q → not q ≡ false
      turn true k = refl
      turn false k = cc

-- ---- signed readings
sign_low : (w n : ℕ) → 1 ≤ w → n < 2 ^ w → bit_at n (w - 1) ≡ 0 → 2 * n < 2 ^ w
sign_low w n positive below clear =
    elim (cases_lt (2 * n) (2 ^ w)) [ inl low ↦ low | inr high ↦ absurd (omega (arith, clear, sign_set w n positive below high)) ]

sign_high : (w n : ℕ) → 1 ≤ w → bit_at n (w - 1) ≡ 1 → 2 ^ w ≤ 2 * n
sign_high w n positive set =
    elim (cases_lt (2 * n) (2 ^ w)) [ inl low ↦ absurd (omega (arith, set, sign_clear w n positive low)) | inr high ↦ high ]

-- words are in order where their bits are, but for the sign bits, which are the other way round
signed_le : (w a b : ℕ) → 1 ≤ w → a < 2 ^ w → b < 2 ^ w → ((i : ℕ) → i < w - 1 → bit_at a i ≤ bit_at b i) → bit_at b (w - 1) ≤ bit_at a (w - 1)
    → signed w a ≤ℤ signed w b
signed_le w a b positive left right h top =
    elim (bit_cases a (w - 1)) [
      | inl low ↦ signed_mono w a b (le_from_bits a b (λ i. ordered i (omega (arith, low)))) right
          (λ high. absurd (omega (arith, high, sign_low w b positive right (omega (arith, low, top)))))
      | inr high ↦ elim (bit_cases b (w - 1)) [
        | inl low ↦ let less = signed_apart w a b left (sign_high w a positive high) (sign_low w b positive right low) in omega (arith, ints, less)
        | inr both ↦ signed_mono w a b (le_from_bits a b (λ i. ordered i (omega (arith, high, both)))) right (λ k. sign_high w a positive high)
      ]
    ]
  where
    ordered : (i : ℕ) → bit_at a (w - 1) ≤ bit_at b (w - 1) → bit_at a i ≤ bit_at b i
    ordered i same =
        elim (cases_lt i (w - 1)) [
          | inl within ↦ h i within
          | inr past ↦ elim (cases_lt (w - 1) i) [
            | inl above ↦ let none = bit_at_above a w i left (omega (arith, above)) in omega (arith, none)
            | inr below ↦ let here : w - 1 ≡ i = omega (arith, past, below) in subst (λ j. bit_at a j ≤ bit_at b j) here same
          ]
        ]

-- ---- the ends of a word
module _ (w n : ℕ) (x : Known) (width : IsWidth w) (fits : Fits w x) (d : Describes w n x) where
  from_least : x.v ≤ n
  from_least = le_from_bits x.v n (above_least w n x fits d)

  to_greatest : n ≤ greatest x
  to_greatest = le_from_bits n (greatest x) (below_greatest w n x d)

  from_signed : signed w (bit_or x.v (bit_and x.m (2 ^ (w - 1)))) ≤ℤ signed w n
  from_signed = signed_le w (bit_or x.v (bit_and x.m (2 ^ (w - 1)))) n width.0 (or_lt w x.v (bit_and x.m (2 ^ (w - 1))) fits.known less) d.below low top
    where
      less : bit_and x.m (2 ^ (w - 1)) < 2 ^ w
      less = let half = pow_below (w - 1) w (omega (arith, width.0)) in omega (arith, and_le_r x.m (2 ^ (w - 1)), half)

      bits : (i : ℕ) → bit_at (bit_or x.v (bit_and x.m (2 ^ (w - 1)))) i ≡ max (bit_at x.v i) (min (bit_at x.m i) (bit_at (2 ^ (w - 1)) i))
      bits i = bit_at_or x.v (bit_and x.m (2 ^ (w - 1))) i ∙ ap (λ z. max (bit_at x.v i) z) (bit_at_and x.m (2 ^ (w - 1)) i)

      low : (i : ℕ) → i < w - 1 → bit_at (bit_or x.v (bit_and x.m (2 ^ (w - 1)))) i ≤ bit_at n i
      low i within = let none = bit_at-pow_other (w - 1) i (λ e. omega (arith, within, e)) in omega (arith, bits i, none, above_least w n x fits d i)

      top : bit_at n (w - 1) ≤ bit_at (bit_or x.v (bit_and x.m (2 ^ (w - 1)))) (w - 1)
      top = let one = bit_at-pow_same (w - 1) in omega (arith, bits (w - 1), one, below_greatest w n x d (w - 1), greatest_bit x (w - 1), bit_at-lt x.m (w - 1))

  to_signed : signed w n ≤ℤ signed w (bit_or x.v (without x.m (2 ^ (w - 1))))
  to_signed = signed_le w n (bit_or x.v (without x.m (2 ^ (w - 1)))) width.0 d.below (or_lt w x.v (without x.m (2 ^ (w - 1))) fits.known less) low top
    where
      less : without x.m (2 ^ (w - 1)) < 2 ^ w
      less = omega (arith, without_le x.m (2 ^ (w - 1)), fits.unknown)

      bits : (i : ℕ) → bit_at (bit_or x.v (without x.m (2 ^ (w - 1)))) i ≡ max (bit_at x.v i) (bit_at x.m i - bit_at (2 ^ (w - 1)) i)
      bits i = bit_at_or x.v (without x.m (2 ^ (w - 1))) i ∙ ap (λ z. max (bit_at x.v i) z) (without_bit x.m (2 ^ (w - 1)) i)

      low : (i : ℕ) → i < w - 1 → bit_at n i ≤ bit_at (bit_or x.v (without x.m (2 ^ (w - 1)))) i
      low i within = let none = bit_at-pow_other (w - 1) i (λ e. omega (arith, within, e)) in omega (arith, bits i, none, below_greatest w n x d i, greatest_bit x i)

      top : bit_at (bit_or x.v (without x.m (2 ^ (w - 1)))) (w - 1) ≤ bit_at n (w - 1)
      top = let one = bit_at-pow_same (w - 1) in omega (arith, bits (w - 1), one, above_least w n x fits d (w - 1), bit_at-lt x.m (w - 1))

pub compared_sound : (k : WordComparison) (w m n : ℕ) (x y : Known) → IsWidth w → Fits w x → Fits w y → Describes w m x → Describes w n y
    → IsTrue (can_be (compared k w x y) (cmp_of k w m n))
compared_sound Eq w m n x y width left right d e = equal_sound w m n x y d e (m == n) refl
compared_sound Ne w m n x y width left right d e = turned_sound (equal_of x y) (m == n) (equal_sound w m n x y d e (m == n) refl)
compared_sound LtU w m n x y width left right d e =
    let order = unsigned_order w in
    lt_sound w (cmp_of LeU w) (cmp_of LtU w) order.0 x.v m (greatest x) y.v n (greatest y)
    ((order.1 x.v m).1.1 (from_least w m x width left d)) ((order.1 m (greatest x)).1.1 (to_greatest w m x width left d))
    ((order.1 y.v n).1.1 (from_least w n y width right e)) ((order.1 n (greatest y)).1.1 (to_greatest w n y width right e)) (cmp_of LtU w m n) refl
compared_sound LeU w m n x y width left right d e =
    let order = unsigned_order w in
    le_sound w (cmp_of LeU w) (cmp_of LtU w) order.0 x.v m (greatest x) y.v n (greatest y)
    ((order.1 x.v m).1.1 (from_least w m x width left d)) ((order.1 m (greatest x)).1.1 (to_greatest w m x width left d))
    ((order.1 y.v n).1.1 (from_least w n y width right e)) ((order.1 n (greatest y)).1.1 (to_greatest w n y width right e)) (cmp_of LeU w m n) refl
compared_sound LtS w m n x y width left right d e =
    let order = signed_order w in
    let xs = signed_ends w x in
    let ys = signed_ends w y in
    lt_sound w (cmp_of LeS w) (cmp_of LtS w) order.0 xs.low m xs.high ys.low n ys.high
    ((order.1 xs.low m).1.1 (from_signed w m x width left d)) ((order.1 m xs.high).1.1 (to_signed w m x width left d))
    ((order.1 ys.low n).1.1 (from_signed w n y width right e)) ((order.1 n ys.high).1.1 (to_signed w n y width right e)) (cmp_of LtS w m n) refl
compared_sound LeS w m n x y width left right d e =
    let order = signed_order w in
    let xs = signed_ends w x in
    let ys = signed_ends w y in
    le_sound w (cmp_of LeS w) (cmp_of LtS w) order.0 xs.low m xs.high ys.low n ys.high
    ((order.1 xs.low m).1.1 (from_signed w m x width left d)) ((order.1 m xs.high).1.1 (to_signed w m x width left d))
    ((order.1 ys.low n).1.1 (from_signed w n y width right e)) ((order.1 n ys.high).1.1 (to_signed w n y width right e)) (cmp_of LeS w m n) refl

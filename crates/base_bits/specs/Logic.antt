-- Lemmas: operations bit by bit, joins and absorption.
use Rattle.std.proofs.Common.{◌≡◌, ℕ, ◌+◌, ◌-◌, ◌%◌, ◌^◌, ◌<◌, max, ◌⊎◌, inl, inr, refl, sym, ap, ap₂, ◌∙◌, subst, arith, pow_pos, bit_and, bit_or, bit_xor, IsTrue}
use Rattle.std.specs.Prelude.{◌==◌}
use Rattle.std.specs.Int.{bit_at}
use Rattle.std.proofs.lemmas.Nat.{and_le_l, or_lt, xor_lt}
use Rattle.std.proofs.lemmas.Nat.Bits.{bit_at-lt, bit_at-zero, bit_at_and, bit_at_or, bit_at_xor, same_from_bits}
use Rattle.base_trait.proofs.Lists.{number_itself, number_told}
use Rattle.base_trait.proofs.Tests.{and_both, and_parts}
use Rattle.base_bits.specs.declared.known.Known.{Known}
use Rattle.base_bits.specs.Known.{without, greatest, Describes, Fits}
use Rattle.base_bits.specs.Bitwise.{bit_cases, without_bit, turned_bit}
use Rattle.base_bits.specs.Describing.{known_bit, unknown_bit, describes_from, fits_without, describes_without, fits_outside, describes_outside, greatest_bit, greatest_below}
use Rattle.base_bits.specs.Not.{not_of}
use Rattle.base_bits.specs.And.{and_of}
use Rattle.base_bits.specs.Or.{or_of}
use Rattle.base_bits.specs.Xor.{xor_of}
use Rattle.base_bits.specs.Join.{join_of, join_unknown, absorbs_known}

and_below : (w x y : ℕ) → x < 2 ^ w → bit_and x y < 2 ^ w
and_below w x y left = omega (arith, and_le_l x y, left)

-- ---- Not
pub not_fits : (w : ℕ) (x : Known) → Fits w x → Fits w (not_of w x)
not_fits w x fits = fits_without w (2 ^ w - 1 - x.v) x.m (omega (arith, pow_pos w)) fits.unknown

pub not_sound : (w n : ℕ) (x : Known) → Fits w x → Describes w n x → Describes w (2 ^ w - 1 - n) (not_of w x)
not_sound w n x fits d =
    describes_without w (2 ^ w - 1 - x.v) x.m (2 ^ w - 1 - n) (omega (arith, pow_pos w)) fits.unknown (omega (arith, pow_pos w))
    (λ i within clear. omega (arith, turned_bit w n i within d.below, turned_bit w x.v i within fits.known, known_bit w n x d i clear))

-- ---- And
pub and_fits : (w : ℕ) (x y : Known) → Fits w x → Fits w y → Fits w (and_of x y)
and_fits w x y left right =
    fits_outside w (bit_and x.v y.v) (bit_and (greatest x) (greatest y)) (and_below w x.v y.v left.known) (and_below w (greatest x) (greatest y) (greatest_below w x left))

pub and_sound : (w m n : ℕ) (x y : Known) → Fits w x → Fits w y → Describes w m x → Describes w n y → Describes w (bit_and m n) (and_of x y)
and_sound w m n x y left right d e =
    describes_outside w (bit_and x.v y.v) (bit_and (greatest x) (greatest y)) (bit_and m n)
    (and_below w x.v y.v left.known) (and_below w (greatest x) (greatest y) (greatest_below w x left)) (and_below w m n d.below)
    (λ i within clear. at i clear)
  where
    at : (i : ℕ) → bit_at (bit_and (greatest x) (greatest y)) i - bit_at (bit_and x.v y.v) i ≡ 0 → bit_at (bit_and m n) i ≡ bit_at (bit_and x.v y.v) i
    at i clear =
        let all = bit_at_and (greatest x) (greatest y) i in
        let known = bit_at_and x.v y.v i in
        let here = bit_at_and m n i in
        let gx = greatest_bit x i in
        let gy = greatest_bit y i in
        elim (bit_cases x.m i) [
          | inl first ↦ elim (bit_cases y.m i) [
            | inl second ↦ omega (arith, known, here, known_bit w m x d i first, known_bit w n y e i second)
            | inr second ↦ omega (arith, clear, all, known, here, gx, gy, first, second, known_bit w m x d i first, unknown_bit w y right i second, bit_at-lt n i, bit_at-lt x.v i)
          ]
          | inr first ↦ elim (bit_cases y.m i) [
            | inl second ↦ omega (arith, clear, all, known, here, gx, gy, first, second, known_bit w n y e i second, unknown_bit w x left i first, bit_at-lt m i, bit_at-lt y.v i)
            | inr second ↦ omega (arith, clear, all, known, gx, gy, first, second, unknown_bit w x left i first, unknown_bit w y right i second)
          ]
        ]

-- ---- Or
pub or_fits : (w : ℕ) (x y : Known) → Fits w x → Fits w y → Fits w (or_of x y)
or_fits w x y left right =
    fits_outside w (bit_or x.v y.v) (bit_or x.m y.m) (or_lt w x.v y.v left.known right.known) (or_lt w x.m y.m left.unknown right.unknown)

pub or_sound : (w m n : ℕ) (x y : Known) → Fits w x → Fits w y → Describes w m x → Describes w n y → Describes w (bit_or m n) (or_of x y)
or_sound w m n x y left right d e =
    describes_outside w (bit_or x.v y.v) (bit_or x.m y.m) (bit_or m n)
    (or_lt w x.v y.v left.known right.known) (or_lt w x.m y.m left.unknown right.unknown) (or_lt w m n d.below e.below)
    (λ i within clear. at i clear)
  where
    at : (i : ℕ) → bit_at (bit_or x.m y.m) i - bit_at (bit_or x.v y.v) i ≡ 0 → bit_at (bit_or m n) i ≡ bit_at (bit_or x.v y.v) i
    at i clear =
        let all = bit_at_or x.m y.m i in
        let known = bit_at_or x.v y.v i in
        let here = bit_at_or m n i in
        elim (bit_cases x.m i) [
          | inl first ↦ elim (bit_cases y.m i) [
            | inl second ↦ omega (arith, known, here, known_bit w m x d i first, known_bit w n y e i second)
            | inr second ↦ omega (arith, clear, all, known, here, first, second, known_bit w m x d i first, unknown_bit w y right i second, bit_at-lt n i, bit_at-lt x.v i)
          ]
          | inr first ↦ elim (bit_cases y.m i) [
            | inl second ↦ omega (arith, clear, all, known, here, first, second, known_bit w n y e i second, unknown_bit w x left i first, bit_at-lt m i, bit_at-lt y.v i)
            | inr second ↦ absurd (omega (arith, clear, all, known, first, second, unknown_bit w x left i first, unknown_bit w y right i second))
          ]
        ]

-- ---- Xor
pub xor_fits : (w : ℕ) (x y : Known) → Fits w x → Fits w y → Fits w (xor_of x y)
xor_fits w x y left right =
    fits_without w (bit_xor x.v y.v) (bit_or x.m y.m) (xor_lt w x.v y.v left.known right.known) (or_lt w x.m y.m left.unknown right.unknown)

pub xor_sound : (w m n : ℕ) (x y : Known) → Fits w x → Fits w y → Describes w m x → Describes w n y → Describes w (bit_xor m n) (xor_of x y)
xor_sound w m n x y left right d e =
    describes_without w (bit_xor x.v y.v) (bit_or x.m y.m) (bit_xor m n)
    (xor_lt w x.v y.v left.known right.known) (or_lt w x.m y.m left.unknown right.unknown) (xor_lt w m n d.below e.below)
    (λ i within clear.
    let either = bit_at_or x.m y.m i in
    let first : bit_at x.m i ≡ 0 = omega (arith, either, clear) in
    let second : bit_at y.m i ≡ 0 = omega (arith, either, clear) in
    bit_at_xor m n i ∙ omega (arith, bit_at_xor x.v y.v i, known_bit w m x d i first, known_bit w n y e i second))

-- ---- join
pub join_unknown_bit : (x y : Known) (i : ℕ) → bit_at (join_unknown x y) i ≡ max (max (bit_at x.m i) (bit_at y.m i)) ((bit_at x.v i + bit_at y.v i) % 2)
join_unknown_bit x y i = omega (arith, bit_at_or (bit_or x.m y.m) (bit_xor x.v y.v) i, bit_at_or x.m y.m i, bit_at_xor x.v y.v i)

pub join_unknown_below : (w : ℕ) (x y : Known) → Fits w x → Fits w y → join_unknown x y < 2 ^ w
join_unknown_below w x y left right =
    or_lt w (bit_or x.m y.m) (bit_xor x.v y.v) (or_lt w x.m y.m left.unknown right.unknown) (xor_lt w x.v y.v left.known right.known)

pub join_fits : (w : ℕ) (x y : Known) → Fits w x → Fits w y → Fits w (join_of x y)
join_fits w x y left right = fits_without w x.v (join_unknown x y) left.known (join_unknown_below w x y left right)

pub join_sound : (w n : ℕ) (x y : Known) → Fits w x → Fits w y → Describes w n x ⊎ Describes w n y → Describes w n (join_of x y)
join_sound w n x y left right (inl d) =
    describes_without w x.v (join_unknown x y) n left.known (join_unknown_below w x y left right) d.below
    (λ i within clear. known_bit w n x d i (omega (arith, join_unknown_bit x y i, clear)))
join_sound w n x y left right (inr d) =
    describes_without w x.v (join_unknown x y) n left.known (join_unknown_below w x y left right) d.below
    (λ i within clear.
    let bits = join_unknown_bit x y i in
    let here : bit_at y.m i ≡ 0 = omega (arith, bits, clear) in
    omega (arith, bits, clear, known_bit w n y d i here, bit_at-lt x.v i, bit_at-lt y.v i))

-- ---- absorption
-- bit by bit: what the old word knows the new one knows alike
abbrev pub KnowsLess : Known → Known → Type 0
KnowsLess old new = (i : ℕ) → bit_at old.m i ≡ 0 → (bit_at new.m i ≡ 0) × (bit_at new.v i ≡ bit_at old.v i)

pub absorbs_bits : (old new : Known) → IsTrue (absorbs_known old new) → KnowsLess old new
absorbs_bits old new h i clear =
    let parts = and_parts (without new.m old.m == 0) (without new.v old.m == without old.v old.m) h in
    let none = ap (λ z. bit_at z i) (number_told (without new.m old.m) 0 parts.0) in
    let same = ap (λ z. bit_at z i) (number_told (without new.v old.m) (without old.v old.m) parts.1) in (
      omega (arith, none, without_bit new.m old.m i, bit_at-zero i, clear),
      omega (arith, same, without_bit new.v old.m i, without_bit old.v old.m i, clear),
    )

pub bits_absorb : (old new : Known) → KnowsLess old new → IsTrue (absorbs_known old new)
bits_absorb old new h =
    and_both (without new.m old.m == 0) (without new.v old.m == without old.v old.m)
    (subst (λ z. IsTrue (z == 0)) (sym none) refl)
    (subst (λ z. IsTrue (without new.v old.m == z)) same (number_itself (without new.v old.m)))
  where
    none : without new.m old.m ≡ 0
    none = same_from_bits (without new.m old.m) 0 (λ i. elim (bit_cases old.m i) [
      | inl clear ↦ omega (arith, without_bit new.m old.m i, bit_at-zero i, (h i clear).0)
      | inr set ↦ omega (arith, without_bit new.m old.m i, bit_at-zero i, set, bit_at-lt new.m i)
    ])

    same : without new.v old.m ≡ without old.v old.m
    same = same_from_bits (without new.v old.m) (without old.v old.m) (λ i. elim (bit_cases old.m i) [
      | inl clear ↦ omega (arith, without_bit new.v old.m i, without_bit old.v old.m i, (h i clear).1)
      | inr set ↦ omega (arith, without_bit new.v old.m i, without_bit old.v old.m i, set, bit_at-lt new.v i, bit_at-lt old.v i)
    ])

pub absorbs_describes : (w n : ℕ) (old new : Known) → Fits w old → IsTrue (absorbs_known old new) → Describes w n new → Describes w n old
absorbs_describes w n old new fits h d =
    describes_from w n old fits d.below
    (λ i within clear. let k = absorbs_bits old new h i clear in known_bit w n new d i k.0 ∙ k.1)

pub absorbs_itself : (x : Known) → IsTrue (absorbs_known x x)
absorbs_itself x = bits_absorb x x (λ i clear. (clear, refl))

pub absorbs_on : (x y z : Known) → IsTrue (absorbs_known x y) → IsTrue (absorbs_known y z) → IsTrue (absorbs_known x z)
absorbs_on x y z h k =
    bits_absorb x z (λ i clear.
    let first = absorbs_bits x y h i clear in
    let second = absorbs_bits y z k i first.0 in
    (second.0, second.1 ∙ first.1))

-- the bits of v outside the unknown ones
pub outside_bit : (a m i : ℕ) → bit_at m i ≡ 0 → bit_at (without a m) i ≡ bit_at a i
outside_bit a m i clear = omega (arith, without_bit a m i, clear)

pub join_absorbs_left : (x y : Known) → IsTrue (absorbs_known (join_of x y) x)
join_absorbs_left x y =
    bits_absorb (join_of x y) x (λ i clear. let bits = join_unknown_bit x y i in
    (omega (arith, bits, clear), sym (outside_bit x.v (join_unknown x y) i clear)))

pub join_absorbs_right : (x y : Known) → IsTrue (absorbs_known (join_of x y) y)
join_absorbs_right x y =
    bits_absorb (join_of x y) y (λ i clear. let bits = join_unknown_bit x y i in
    (omega (arith, bits, clear), omega (arith, bits, clear, outside_bit x.v (join_unknown x y) i clear, bit_at-lt x.v i, bit_at-lt y.v i)))

-- a word that absorbs both absorbs the join
pub join_least : (x y z : Known) → IsTrue (absorbs_known z x) → IsTrue (absorbs_known z y) → IsTrue (absorbs_known z (join_of x y))
join_least x y z h k =
    bits_absorb z (join_of x y) (λ i clear.
    let first = absorbs_bits z x h i clear in
    let second = absorbs_bits z y k i clear in
    let none : bit_at (join_unknown x y) i ≡ 0 = omega (arith, join_unknown_bit x y i, first.0, first.1, second.0, second.1) in
    (none, outside_bit x.v (join_unknown x y) i none ∙ first.1))

-- where the old word absorbs the new one the join is the old word
pub join_keeps : (w : ℕ) (old new : Known) → Fits w old → IsTrue (absorbs_known old new) → join_of old new ≡ old
join_keeps w old new fits h = ap₂ (λ v m. made v m) (ap (λ m. without old.v m) unknown ∙ stays) unknown
  where
    made : ℕ → ℕ → Known
    made v m = record { v = v; m = m }

    unknown : join_unknown old new ≡ old.m
    unknown = same_from_bits (join_unknown old new) old.m (λ i. elim (bit_cases old.m i) [
      | inl clear ↦ let k = absorbs_bits old new h i clear in omega (arith, join_unknown_bit old new i, clear, k.0, k.1)
      | inr set ↦ omega (arith, join_unknown_bit old new i, set, bit_at-lt new.m i)
    ])

    stays : without old.v old.m ≡ old.v
    stays = let none = fits.apart in omega arith

-- Lemmas: what moves bits.
use Rattle.std.proofs.Common.{◌≡◌, ℕ, ◌+◌, ◌-◌, ◌*◌, ◌/◌, ◌%◌, ◌^◌, ◌<◌, ◌≤◌, min, ◌⊎◌, inl, inr, refl, sym, ap, ◌∙◌, arith, pow_pos, pow-add, mod-lt, div-le_self}
use Rattle.std.specs.Int.{bit_at}
use Rattle.std.proofs.Common.{add_comm}
use Rattle.std.proofs.lemmas.Bool.{cases_lt}
use Rattle.std.proofs.lemmas.Nat.{div_below, le-div, shr-shr}
use Rattle.std.proofs.lemmas.Nat.Bits.{bit_at-lt, bit_at-zero, bit_at_above, bit_at_cat_low, bit_at_cat_high, bit_at_ones}
use Rattle.word_operations.specs.Casts.{zext_of, sext_of, trunc_of}
use Rattle.word_operations.specs.Op2.{op2_of}
use Rattle.word_operations.specs.declared.kinds.BinaryOperation.TheVariants.{Shl, ShrU, ShrS, RotL}
use Rattle.word_operations.specs.Width.{IsWidth}
use Rattle.word_operations.proofs.Bounds.{shr_s_low, shr_s_high, sext_low, sext_high}
use Rattle.word_operations.proofs.Fits.{op2_of_fits, zext_of_fits, sext_of_fits, trunc_of_fits}
use Rattle.word_operations.proofs.Powers.{rotated_split, high_below}
use Rattle.word_operations.proofs.Readings.{twice_half}
use Rattle.base_trait.specs.Laws.{IsExtension}
use Rattle.base_bits.specs.declared.known.Known.{Known}
use Rattle.base_bits.specs.Known.{Describes, Fits}
use Rattle.base_bits.specs.Bitwise.{bit_cases, turned_bit}
use Rattle.base_bits.specs.Describing.{known_bit, unknown_bit, describes_from, apart_from}
use Rattle.base_bits.specs.Moved.{moved}
use Rattle.base_bits.specs.Sums.{low_bit}

-- bit i of each result is bit j of the number
abbrev pub IsFrom : ℕ → (ℕ → ℕ) → ℕ → ℕ → Type 0
IsFrom from f i j = (n : ℕ) → n < 2 ^ from → bit_at (f n) i ≡ bit_at n j

-- bit i of each result is 0
abbrev pub IsClear : ℕ → (ℕ → ℕ) → ℕ → Type 0
IsClear from f i = (n : ℕ) → n < 2 ^ from → bit_at (f n) i ≡ 0

-- each bit of a result is one bit of the number, or always 0
pub record Moves (from to : ℕ) (f : ℕ → ℕ) : Type 0 where
  pub below : (n : ℕ) → n < 2 ^ from → f n < 2 ^ to
  pub source : (i : ℕ) → i < to → ((j : ℕ) × IsFrom from f i j) ⊎ IsClear from f i

module _ (from to : ℕ) (f : ℕ → ℕ) (moves : Moves from to f) where
  pub moved_fits : (x : Known) → Fits from x → Fits to (moved f x)
  moved_fits x fits = record { known = moves.below x.v fits.known; unknown = moves.below x.m fits.unknown; apart = apart_from (f x.v) (f x.m) apart }
    where
      known_clear : (j : ℕ) → bit_at x.v j ≡ 1 → bit_at x.m j ≡ 0
      known_clear j one = elim (bit_cases x.m j) [ inl clear ↦ clear | inr set ↦ absurd (omega (arith, one, unknown_bit from x fits j set)) ]

      apart : (i : ℕ) → bit_at (f x.v) i ≡ 1 → bit_at (f x.m) i ≡ 0
      apart i set =
          elim (cases_lt i to) [
            | inl within ↦ elim (moves.source i within) [
              | inl s ↦ s.1 x.m fits.unknown ∙ known_clear s.0 (sym (s.1 x.v fits.known) ∙ set)
              | inr clear ↦ clear x.m fits.unknown
            ]
            | inr past ↦ bit_at_above (f x.m) to i (moves.below x.m fits.unknown) past
          ]

  pub moved_sound : (n : ℕ) (x : Known) → Fits from x → Describes from n x → Describes to (f n) (moved f x)
  moved_sound n x fits d = describes_from to (f n) (moved f x) (moved_fits x fits) (moves.below n d.below) at
    where
      at : (i : ℕ) → i < to → bit_at (f x.m) i ≡ 0 → bit_at (f n) i ≡ bit_at (f x.v) i
      at i within clear =
          elim (moves.source i within) [
            | inl s ↦ s.1 n d.below ∙ known_bit from n x d s.0 (sym (s.1 x.m fits.unknown) ∙ clear) ∙ sym (s.1 x.v fits.known)
            | inr none ↦ none n d.below ∙ sym (none x.v fits.known)
          ]

-- ---- shifts
pub shifted_right : (n k i : ℕ) → bit_at (n / 2 ^ k) i ≡ bit_at n (i + k)
shifted_right n k i = ap (λ z. z % 2) (shr-shr n k i ∙ ap (λ z. n / 2 ^ z) (add_comm k i))

shifted_left_low : (n k i : ℕ) → i < k → bit_at (n * 2 ^ k) i ≡ 0
shifted_left_low n k i within =
    let is : n * 2 ^ k ≡ n * 2 ^ k + 0 = omega arith in
    ap (λ z. bit_at z i) is ∙ bit_at_cat_low n k 0 i within ∙ bit_at-zero i

shifted_left_high : (n k i : ℕ) → k ≤ i → bit_at (n * 2 ^ k) i ≡ bit_at n (i - k)
shifted_left_high n k i past =
    let is : n * 2 ^ k ≡ n * 2 ^ k + 0 = omega arith in
    ap (λ z. bit_at z i) is ∙ bit_at_cat_high n k 0 i (pow_pos k) past

pub shl_moves : (w y : ℕ) → IsWidth w → y < 2 ^ w → Moves w w (λ n. op2_of Shl w n y)
shl_moves w y width count = record {
  below = λ n h. op2_of_fits Shl w n y width h count;
  source = λ i within. elim (cases_lt i (min y w)) [
    | inl low ↦ inr (λ n h. low_bit (n * 2 ^ min y w) w i within ∙ shifted_left_low n (min y w) i low)
    | inr high ↦ inl (i - min y w, λ n h. low_bit (n * 2 ^ min y w) w i within ∙ shifted_left_high n (min y w) i high)
  ];
}

pub shr_u_moves : (w y : ℕ) → IsWidth w → y < 2 ^ w → Moves w w (λ n. op2_of ShrU w n y)
shr_u_moves w y width count = record {
  below = λ n h. op2_of_fits ShrU w n y width h count;
  source = λ i within. inl (i + min y w, λ n h. shifted_right n (min y w) i);
}

-- the sign bit
pub sign_clear : (w n : ℕ) → 1 ≤ w → 2 * n < 2 ^ w → bit_at n (w - 1) ≡ 0
sign_clear w n positive low = bit_at_above n (w - 1) (w - 1) (omega (arith, low, twice_half w positive)) (omega arith)

pub sign_set : (w n : ℕ) → 1 ≤ w → n < 2 ^ w → 2 ^ w ≤ 2 * n → bit_at n (w - 1) ≡ 1
sign_set w n positive below high =
    let half = twice_half w positive in
    let one : n / 2 ^ (w - 1) ≡ 1 =
    omega (arith, div_below n (2 ^ (w - 1)) 2 (pow_pos (w - 1)) (omega (arith, below, half)), le-div 1 n (2 ^ (w - 1)) (pow_pos (w - 1)) (omega (arith, high, half))) in
    ap (λ z. z % 2) one

-- bit i of a word shifted to the right with its sign
pub shr_s_bit : (w n y i : ℕ) → IsWidth w → n < 2 ^ w → i < w → bit_at (op2_of ShrS w n y) i ≡ bit_at n (min (i + min y w) (w - 1))
shr_s_bit w n y i width below within =
    elim (cases_lt (2 * n) (2 ^ w)) [
      | inl low ↦
          ap (λ z. bit_at z i) (shr_s_low w n y low) ∙ shifted_right n (min y w) i
          ∙ elim (cases_lt (i + min y w) w) [
            | inl inside ↦ ap (bit_at n) (omega arith)
            | inr past ↦
                let last : min (i + min y w) (w - 1) ≡ w - 1 = omega (arith, past, width.0) in
                bit_at_above n w (i + min y w) below past ∙ sym (ap (bit_at n) last ∙ sign_clear w n width.0 low)
          ]
      | inr high ↦
          let rest = (2 ^ w - 1 - n) / 2 ^ min y w in
          let small : rest < 2 ^ w = omega (arith, div-le_self (2 ^ w - 1 - n) (2 ^ min y w), pow_pos w) in
          ap (λ z. bit_at z i) (shr_s_high w n y below high) ∙ turned_bit w rest i within small
          ∙ elim (cases_lt (i + min y w) w) [
            | inl inside ↦
                let here : min (i + min y w) (w - 1) ≡ i + min y w = omega (arith, inside) in
                ap (λ b. 1 - b) (shifted_right (2 ^ w - 1 - n) (min y w) i ∙ turned_bit w n (i + min y w) inside below)
                ∙ omega (arith, bit_at-lt n (i + min y w)) ∙ sym (ap (bit_at n) here)
            | inr past ↦
                let last : min (i + min y w) (w - 1) ≡ w - 1 = omega (arith, past, width.0) in
                ap (λ b. 1 - b) (shifted_right (2 ^ w - 1 - n) (min y w) i ∙ bit_at_above (2 ^ w - 1 - n) w (i + min y w) (omega (arith, pow_pos w)) past)
                ∙ sym (ap (bit_at n) last ∙ sign_set w n width.0 below high)
          ]
    ]

pub shr_s_moves : (w y : ℕ) → IsWidth w → y < 2 ^ w → Moves w w (λ n. op2_of ShrS w n y)
shr_s_moves w y width count = record {
  below = λ n h. op2_of_fits ShrS w n y width h count;
  source = λ i within. inl (min (i + min y w) (w - 1), λ n h. shr_s_bit w n y i width h within);
}

pub rot_l_moves : (w y : ℕ) → IsWidth w → y < 2 ^ w → Moves w w (λ n. op2_of RotL w n y)
rot_l_moves w y width count = record { below = λ n h. op2_of_fits RotL w n y width h count; source = at }
  where
    within_width : y % w < w
    within_width = mod-lt y (omega (arith, width.0))

    at : (i : ℕ) → i < w → ((j : ℕ) × IsFrom w (λ n. op2_of RotL w n y) i j) ⊎ IsClear w (λ n. op2_of RotL w n y) i
    at i within =
        elim (cases_lt i (y % w)) [
          | inl low ↦ inl (
            i + (w - y % w),
            λ n h.
                ap (λ z. bit_at z i) (rotated_split w n (y % w) (omega (arith, within_width)))
                ∙ bit_at_cat_low (n % 2 ^ (w - y % w)) (y % w) (n / 2 ^ (w - y % w)) i low
                ∙ shifted_right n (w - y % w) i,
          )
          | inr high ↦ inl (
            i - y % w,
            λ n h.
                ap (λ z. bit_at z i) (rotated_split w n (y % w) (omega (arith, within_width)))
                ∙ bit_at_cat_high (n % 2 ^ (w - y % w)) (y % w) (n / 2 ^ (w - y % w)) i (high_below w n (y % w) (omega (arith, within_width)) h) high
                ∙ low_bit n (w - y % w) (i - y % w) (omega (arith, within, high, within_width)),
          )
        ]

-- ---- casts
pub zext_moves : (from to : ℕ) → IsExtension from to → Moves from to (zext_of from to)
zext_moves from to widths = record { below = λ n h. zext_of_fits from to n widths.order h; source = λ i within. inl (i, λ n h. refl) }

pub sext_bit : (from to n i : ℕ) → IsExtension from to → n < 2 ^ from → i < to → bit_at (sext_of from to n) i ≡ bit_at n (min i (from - 1))
sext_bit from to n i widths below within =
    elim (cases_lt (2 * n) (2 ^ from)) [
      | inl low ↦
          ap (λ z. bit_at z i) (sext_low from to n widths.order low)
          ∙ elim (cases_lt i from) [
            | inl inside ↦ ap (bit_at n) (omega (arith, inside))
            | inr past ↦ bit_at_above n from i below past ∙ sym (ap (bit_at n) (last past) ∙ sign_clear from n positive low)
          ]
      | inr high ↦
          ap (λ z. bit_at z i) (is high)
          ∙ elim (cases_lt i from) [
            | inl inside ↦ bit_at_cat_low (2 ^ (to - from) - 1) from n i inside ∙ ap (bit_at n) (omega (arith, inside))
            | inr past ↦
                bit_at_cat_high (2 ^ (to - from) - 1) from n i below past ∙ bit_at_ones (to - from) (i - from) (omega (arith, within, past))
                ∙ sym (ap (bit_at n) (last past) ∙ sign_set from n positive below high)
          ]
    ]
  where
    positive : 1 ≤ from
    positive = widths.narrow.0

    last : from ≤ i → min i (from - 1) ≡ from - 1
    last past = omega (arith, past, positive)

    is : 2 ^ from ≤ 2 * n → sext_of from to n ≡ (2 ^ (to - from) - 1) * 2 ^ from + n
    is high =
        let split : to ≡ to - from + from = let order = widths.order in omega (arith, order) in
        let power : 2 ^ to ≡ 2 ^ (to - from) * 2 ^ from = ap (λ k. 2 ^ k) split ∙ pow-add 2 (to - from) from in
        let sum = sext_high from to n widths.order below high in
        let whole : 2 ^ (to - from) - 1 + 1 ≡ 2 ^ (to - from) = omega (arith, pow_pos (to - from)) in
        let part : (2 ^ (to - from) - 1 + 1) * 2 ^ from ≡ 2 ^ (to - from) * 2 ^ from = ap (λ k. k * 2 ^ from) whole in
        omega (arith, sum, power, part)

pub sext_moves : (from to : ℕ) → IsExtension from to → Moves from to (sext_of from to)
sext_moves from to widths = record {
  below = λ n h. sext_of_fits from to n;
  source = λ i within. inl (min i (from - 1), λ n h. sext_bit from to n i widths h within);
}

pub trunc_moves : (from to : ℕ) → IsExtension to from → Moves from to (trunc_of from to)
trunc_moves from to widths = record { below = λ n h. trunc_of_fits from to n; source = λ i within. inl (i, λ n h. low_bit n to i within) }

-- The signed reading and the word of an integer, by cases on the sign.
use Rattle.std.proofs.Common.{◌≡◌, ℕ, suc, ◌-◌, ◌*◌, ◌%◌, ◌^◌, ◌<◌, ◌≤◌, ℤ, pos, negsuc, ◌+ℤ◌, ◌-ℤ◌, ◌*ℤ◌, unsigned_abs, ap, sym, refl, ◌∙◌, arith, pow_pos, mod-lt, mod-eq_of_lt, lt-ltb, le-ltb, inl, inr, ◌≢◌, subst, lit≤, div-add-mod'}
use Rattle.std.proofs.Math.Nat.{pow-succ'}
use Rattle.std.proofs.lemmas.Bool.{cases_lt}
use Rattle.std.proofs.lemmas.Int.{ints, int_rem_euclid_is}
use Rattle.word_operations.specs.Op2.{high_part}
use Rattle.word_operations.specs.Signed.{signed, unsigned, IsReading}

-- below half of 2 ^ w the reading is the number
pub signed_low : (w x : ℕ) → 2 * x < 2 ^ w → signed w x ≡ pos x
unfolding signed
signed_low w x h = rw (lt-ltb (2 * x) (2 ^ w) h)

-- from half of 2 ^ w on it is 2 ^ w less
pub signed_high : (w x : ℕ) → 2 ^ w ≤ 2 * x → signed w x ≡ pos x -ℤ pos (2 ^ w)
unfolding signed
signed_high w x h = rw (le-ltb (2 * x) (2 ^ w) h)

-- which is below 0
pub signed_negative : (w x : ℕ) → 2 ^ w ≤ 2 * x → x < 2 ^ w → signed w x ≡ negsuc (2 ^ w - suc x)
signed_negative w x h below = signed_high w x h ∙ omega (arith, ints)

pub unsigned_pos : (w n : ℕ) → unsigned w (pos n) ≡ n % 2 ^ w
unfolding unsigned
unsigned_pos w n = refl

pub unsigned_negsuc : (w n : ℕ) → unsigned w (negsuc n) ≡ 2 ^ w - 1 - n % 2 ^ w
unfolding unsigned
unsigned_negsuc w n = refl

-- the word of an integer is below 2 ^ w
pub unsigned_fits : (w : ℕ) (z : ℤ) → unsigned w z < 2 ^ w
unsigned_fits w (pos n) = rw unsigned_pos (mod-lt n (pow_pos w))
unsigned_fits w (negsuc n) = rw unsigned_negsuc (omega (arith, pow_pos w))

-- a word is the word of its reading
pub unsigned-signed : (w x : ℕ) → x < 2 ^ w → unsigned w (signed w x) ≡ x
unsigned-signed w x below =
    elim (cases_lt (2 * x) (2 ^ w)) [
      | inl low ↦ ap (unsigned w) (signed_low w x low) ∙ unsigned_pos w x ∙ mod-eq_of_lt below
      | inr high ↦
          let less : 2 ^ w - suc x < 2 ^ w = omega arith in
          let last : 2 ^ w - 1 - (2 ^ w - suc x) ≡ x = omega arith in
          ap (unsigned w) (signed_negative w x high below) ∙ unsigned_negsuc w (2 ^ w - suc x)
          ∙ ap (λ n. 2 ^ w - 1 - n) (mod-eq_of_lt less) ∙ last
    ]

-- 2 ^ w is twice the half at which readings turn negative
pub twice_half : (w : ℕ) → 1 ≤ w → 2 ^ w ≡ 2 * 2 ^ (w - 1)
twice_half w positive =
    let split : w ≡ suc (w - 1) = omega arith in
    ap (λ k. 2 ^ k) split ∙ pow-succ' 2 (w - 1)

pub reading_pos : (w n : ℕ) → 1 ≤ w → 2 * n < 2 ^ w → IsReading w (pos n)
reading_pos w n positive low =
    let half = twice_half w positive in
    (omega (arith, ints), omega (arith, ints))

pub reading_negsuc : (w n : ℕ) → 1 ≤ w → 2 * suc n ≤ 2 ^ w → IsReading w (negsuc n)
reading_negsuc w n positive low =
    let half = twice_half w positive in
    (omega (arith, ints), omega (arith, ints))

pub pos_within : (w n : ℕ) → 1 ≤ w → IsReading w (pos n) → 2 * n < 2 ^ w
pos_within w n positive h = omega (arith, ints, twice_half w positive, h.1)

pub negsuc_within : (w n : ℕ) → 1 ≤ w → IsReading w (negsuc n) → 2 * suc n ≤ 2 ^ w
negsuc_within w n positive h = omega (arith, ints, twice_half w positive, h.0)

-- the reading of a word
pub signed_reading : (w x : ℕ) → 1 ≤ w → x < 2 ^ w → IsReading w (signed w x)
signed_reading w x positive below =
    elim (cases_lt (2 * x) (2 ^ w)) [
      | inl low ↦ subst (IsReading w) (sym (signed_low w x low)) (reading_pos w x positive low)
      | inr high ↦ subst (IsReading w) (sym (signed_negative w x high below)) (reading_negsuc w (2 ^ w - suc x) positive (omega arith))
    ]

-- the reading of the word of a reading
pub signed-unsigned : (w : ℕ) (z : ℤ) → 1 ≤ w → IsReading w z → signed w (unsigned w z) ≡ z
signed-unsigned w (pos n) positive h =
    let half : 2 * n < 2 ^ w = pos_within w n positive h in
    let below : n < 2 ^ w = omega arith in
    ap (signed w) (unsigned_pos w n ∙ mod-eq_of_lt below) ∙ signed_low w n half
signed-unsigned w (negsuc n) positive h =
    let half : 2 * suc n ≤ 2 ^ w = negsuc_within w n positive h in
    let less : n < 2 ^ w = omega arith in
    let word : 2 ^ w - 1 - n ≡ 2 ^ w - suc n = omega arith in
    let is : unsigned w (negsuc n) ≡ 2 ^ w - suc n = unsigned_negsuc w n ∙ ap (λ k. 2 ^ w - 1 - k) (mod-eq_of_lt less) ∙ word in
    let high : 2 ^ w ≤ 2 * (2 ^ w - suc n) = omega arith in
    let below : 2 ^ w - suc n < 2 ^ w = omega arith in
    let back : 2 ^ w - suc (2 ^ w - suc n) ≡ n = omega arith in
    ap (signed w) is ∙ signed_negative w (2 ^ w - suc n) high below ∙ ap negsuc back

-- the reading of a word that is not 0 is not 0
pub signed_nonzero : (w x : ℕ) → x < 2 ^ w → 0 < x → signed w x ≢ pos 0
signed_nonzero w x below positive e =
    elim (cases_lt (2 * x) (2 ^ w)) [
      | inl low ↦ let is : pos x ≡ pos 0 = sym (signed_low w x low) ∙ e in omega (arith, ints)
      | inr high ↦ let is : negsuc (2 ^ w - suc x) ≡ pos 0 = sym (signed_negative w x high below) ∙ e in cc
    ]

-- an integer that a multiple of 2 ^ w makes a number has the word of that number
pub unsigned_from : (w : ℕ) (z : ℤ) (k m : ℕ) → z +ℤ pos (k * 2 ^ w) ≡ pos m → unsigned w z ≡ m % 2 ^ w
unfolding unsigned
unsigned_from w z k m e = ap unsigned_abs (int_rem_euclid_is z (pos (2 ^ w)) (2 ^ w) k m (pow_pos w) refl e)

-- the reading is the number, or 2 ^ w less
pub signed_off : (w x : ℕ) → (b : ℕ) × (b ≤ 1) × (signed w x +ℤ pos (b * 2 ^ w) ≡ pos x)
signed_off w x =
    elim (cases_lt (2 * x) (2 ^ w)) [
      | inl low ↦ (0, lit≤ tt, omega (arith, ints, signed_low w x low))
      | inr high ↦ (1, lit≤ tt, omega (arith, ints, signed_high w x high))
    ]

-- an integer is its quotient by 2 ^ w, rounded down, and its word
pub high_part-unsigned : (w : ℕ) (z : ℤ) → high_part z w *ℤ pos (2 ^ w) +ℤ pos (unsigned w z) ≡ z
high_part-unsigned w (pos n) = rw unsigned_pos (ap pos (div-add-mod' n (2 ^ w)))
high_part-unsigned w (negsuc n) =
    let parts = div-add-mod' n (2 ^ w) in
    let less : n % 2 ^ w < 2 ^ w = mod-lt n (pow_pos w) in
    omega (arith, ints, unsigned_negsuc w n)

-- the absolute value of a reading
pub reading_abs : (w : ℕ) (z : ℤ) → 1 ≤ w → IsReading w z → unsigned_abs z ≤ 2 ^ (w - 1)
reading_abs w (pos n) positive h = omega (arith, pos_within w n positive h, twice_half w positive)
reading_abs w (negsuc n) positive h = omega (arith, negsuc_within w n positive h, twice_half w positive)

pub signed_abs : (w x : ℕ) → 1 ≤ w → x < 2 ^ w → unsigned_abs (signed w x) ≤ 2 ^ (w - 1)
signed_abs w x positive below = reading_abs w (signed w x) positive (signed_reading w x positive below)

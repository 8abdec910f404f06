-- Extensions and truncations.
use Rattle.std.proofs.Common.{◌≡◌, ℕ, suc, ◌+◌, ◌-◌, ◌*◌, ◌%◌, ◌^◌, ◌≤◌, ℤ, pos, negsuc, ap, sym, ◌∙◌, arith, ◌/◌, refl, pow_mono, pow-add, sub-add_cancel, mod-eq_of_lt}
use Rattle.std.proofs.lemmas.Int.{ints}
use Rattle.word_operations.specs.Laws.{ZeroExtension, SignExtension}
use Rattle.word_operations.specs.Signed.{signed, unsigned, IsReading}
use Rattle.word_operations.proofs.Powers.{mod_pow}
use Rattle.word_operations.proofs.Readings.{unsigned_pos, signed_reading, unsigned-signed, signed-unsigned, unsigned_from, high_part-unsigned, reading_pos, reading_negsuc, pos_within, negsuc_within}

-- a reading is one of any greater width
reading_widens : (v w : ℕ) (z : ℤ) → 1 ≤ v → v ≤ w → IsReading v z → IsReading w z
reading_widens v w (pos n) positive widens h =
    let greater : 2 ^ v ≤ 2 ^ w = pow_mono widens in
    reading_pos w n (omega arith) (omega (arith, pos_within v n positive h))
reading_widens v w (negsuc n) positive widens h =
    let greater : 2 ^ v ≤ 2 ^ w = pow_mono widens in
    reading_negsuc w n (omega arith) (omega (arith, negsuc_within v n positive h))

-- the lowest bits of a word of an integer are its word of their width
pub unsigned-mod : (v w : ℕ) (z : ℤ) → v ≤ w → unsigned w z % 2 ^ v ≡ unsigned v z
unsigned-mod v w (pos n) widens = rw (unsigned_pos w n, unsigned_pos v n) (mod_pow n v w widens)
unsigned-mod v w (negsuc n) widens =
    let whole : w - v + v ≡ w = sub-add_cancel widens in
    let power : 2 ^ w ≡ 2 ^ (w - v) * 2 ^ v = ap (λ k. 2 ^ k) (sym whole) ∙ pow-add 2 (w - v) v in
    let turns : suc (n / 2 ^ w) * 2 ^ w ≡ suc (n / 2 ^ w) * 2 ^ (w - v) * 2 ^ v = ap (λ k. suc (n / 2 ^ w) * k) power ∙ omega arith in
    sym (unsigned_from v (negsuc n) (suc (n / 2 ^ w) * 2 ^ (w - v)) (unsigned w (negsuc n)) (omega (arith, ints, high_part-unsigned w (negsuc n))))

pub sign_extension : SignExtension
sign_extension from to x width widens below =
    let positive : 1 ≤ to = omega (arith, width.0) in (
      signed-unsigned to (signed from x) positive (reading_widens from to (signed from x) width.0 widens (signed_reading from x width.0 below)),
      unsigned-mod from to (signed from x) widens ∙ unsigned-signed from x below,
    )

pub zero_extension : ZeroExtension
zero_extension from to x widens below = (refl, mod-eq_of_lt below)

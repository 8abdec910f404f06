-- Numbers are read as they are written, and have one text.
use Rattle.std.proofs.Common.{◌≡◌, ◌+◌, ◌*◌, ◌/◌, ◌%◌, ◌<◌, ◌≤◌, ◌^◌, ◌&&◌, ◌==◌, ℕ, zero, suc, Bool, true, false, List, [], ◌∷◌, length, Option, Some, None, nat_le, nat_lt, refl, sym, ap, subst, inl, inr, arith}
use Rattle.std.proofs.lemmas.Bool.{cases_Bool, and_parts, eq-eqb, eqb-true, leb-true, lt-ltb, ltb-true}
use Rattle.std.proofs.lemmas.Bool.Decides.{nat_tests}
use Rattle.std.proofs.lemmas.Option.{none-some, same_Some, cond_some}
use Rattle.std.proofs.Math.Nat.{pow-le-pow_right, mod-eq_of_lt, mul_assoc, add-mul, div-div-eq-div-mul}
use Rattle.std.proofs.lemmas.Nat.{mod-pow-add, pow-add}
use Rattle.std.specs.Char.{digit_value}
use Rattle.std.specs.Fmt.{digit_glyph}
use Rattle.std.specs.List.{list_all}
use Rattle.word_operations.specs.Width.{IsWidth}
use Rattle.state_cell_text.specs.Digits.{digits_of, hex_digits, hex_from, hex_number}
use Rattle.state_cell_text.specs.Keys.{below}
use Rattle.text_words.specs.Reading.{is_digit, number_in}
use Rattle.text_words.specs.Words.{number}
use Rattle.text_words.specs.Options.{cond_then}

-- ---- what is written is read

glyph_value : (d : ℕ) → d < 16 → digit_value (digit_glyph false d) ≡ d
glyph_value d h = grind (arith, nat_tests, h)

four : (value n : ℕ) → value % 2 ^ (4 * suc n) ≡ (value / 2 ^ (4 * n) % 16) * 2 ^ (4 * n) + value % 2 ^ (4 * n)
four value n = let e : 4 * suc n ≡ 4 + 4 * n = omega arith in rw e (mod-pow-add value 4 (4 * n))

spread : (high d c low : ℕ) → (high * 16 + d) * c + low ≡ high * (16 * c) + (d * c + low)
spread high d c low = rw (add-mul (high * 16) d c, mul_assoc high 16 c) (omega arith)

more : (high d n low all : ℕ) → all ≡ d * 2 ^ (4 * n) + low → (high * 16 + d) * 2 ^ (4 * n) + low ≡ high * 2 ^ (4 * suc n) + all
more high d n low all e =
    let s : 4 * suc n ≡ 4 + 4 * n = omega arith in
    let p = pow-add 2 4 (4 * n) in
    rw (e, s, p) (spread high d (2 ^ (4 * n)) low)

hex_read : (n high value : ℕ) → hex_from high (hex_digits n value) ≡ Some (high * 2 ^ (4 * n) + value % 2 ^ (4 * n))
hex_read zero high value = ap Some (omega arith)
hex_read (suc n) high value =
    let d = value / 2 ^ (4 * n) % 16 in
    let below : d < 16 = omega arith in
    let digit : digit_value (digit_glyph false d) ≡ d = glyph_value d below in
    let is_digit : nat_lt (digit_value (digit_glyph false d)) 16 ≡ true = rw digit (grind (arith, nat_tests, below)) in
    let value_is : value % 2 ^ (4 * suc n) ≡ d * 2 ^ (4 * n) + value % 2 ^ (4 * n) = four value n in
    rw (is_digit, digit, hex_read n (high * 16 + d) value) (ap Some (more high d n (value % 2 ^ (4 * n)) (value % 2 ^ (4 * suc n)) value_is))

hex_length : (n value : ℕ) → length (hex_digits n value) ≡ n
hex_length zero value = refl
hex_length (suc n) value = ap suc (hex_length n value)

hex_all : (test : ℕ → Bool) → ((d : ℕ) → d < 16 → test (digit_glyph false d) ≡ true) → (n value : ℕ) → list_all test (hex_digits n value) ≡ true
hex_all test each zero value = refl
hex_all test each (suc n) value =
    let small : value / 2 ^ (4 * n) % 16 < 16 = omega arith in
    rw (each (value / 2 ^ (4 * n) % 16) small) (hex_all test each n value)

glyph_digit : (d : ℕ) → d < 16 → is_digit (digit_glyph false d) ≡ true
glyph_digit d h = grind (arith, nat_tests, h)

-- a number of a width, in at most 16 digits
hex_number_read : (w n : ℕ) → IsWidth w → n < 2 ^ w → hex_number 16 (hex_digits (digits_of w) n) ≡ Some n
hex_number_read w n width small =
    let low : 1 ≤ w = width.0 in
    let high : w ≤ 64 = width.1 in
    let count : length (hex_digits (digits_of w) n) ≡ digits_of w = hex_length (digits_of w) n in
    let few : (nat_lt 0 (digits_of w) && nat_le (digits_of w) 16) ≡ true = grind (arith, nat_tests, low, high) in
    let up : 2 ^ w ≤ 2 ^ (4 * digits_of w) = pow-le-pow_right {n = 2} (omega arith) {i = w} {j = 4 * digits_of w} (omega arith) in
    let same : n % 2 ^ (4 * digits_of w) ≡ n = mod-eq_of_lt (omega (arith, small, up)) in
    rw (count, few, hex_read (digits_of w) 0 n, same) (ap Some (omega arith))

pub number_back : (w n : ℕ) → IsWidth w → n < 2 ^ w → number_in w (number w n) ≡ Some n
unfolding number
number_back w n width small =
    let long : (length (hex_digits (digits_of w) n) == digits_of w) ≡ true = eq-eqb _ _ (hex_length (digits_of w) n) in
    let fit : nat_lt n (2 ^ w) ≡ true = lt-ltb n (2 ^ w) small in
    rw (long, hex_all is_digit glyph_digit (digits_of w) n, hex_number_read w n width small, fit) refl

pub number_length : (w n : ℕ) → length (number w n) ≡ digits_of w
unfolding number
number_length w n = hex_length (digits_of w) n

-- a test that each digit passes
pub number_all : (test : ℕ → Bool) → ((d : ℕ) → d < 16 → test (digit_glyph false d) ≡ true) → (w n : ℕ) → list_all test (number w n) ≡ true
unfolding number
number_all test each w n = hex_all test each (digits_of w) n

-- ---- what is read was written

glyph_of : (b : ℕ) → is_digit b ≡ true → digit_glyph false (digit_value b) ≡ b
glyph_of b h = grind (arith, nat_tests, h)

low_digit : (high d q : ℕ) → q ≡ high * 16 + d → d < 16 → q % 16 ≡ d
low_digit high d q e h = omega (arith, e, h)

high_part : (high d v n : ℕ) → v / 2 ^ (4 * n) ≡ high * 16 + d → d < 16 → v / 2 ^ (4 * suc n) ≡ high
high_part high d v n e h =
    let s : 4 * suc n ≡ 4 * n + 4 = omega arith in
    let q : v / 2 ^ (4 * n) / 16 ≡ v / (2 ^ (4 * n) * 16) = div-div-eq-div-mul v (2 ^ (4 * n)) 16 in
    rw (s, pow-add 2 (4 * n) 4, sym q, e) (omega (arith, h))

written : (digits : List ℕ) (high v : ℕ) → list_all is_digit digits ≡ true → hex_from high digits ≡ Some v
    → (hex_digits (length digits) v ≡ digits) × (v / 2 ^ (4 * length digits) ≡ high)
written [] high v low e = (refl, let s = same_Some high v e in omega (arith, s))
written (b ∷ digits) high v low e =
    let parts = and_parts (is_digit b) (list_all is_digit digits) low in
    elim (cases_Bool (nat_lt (digit_value b) 16)) [
      | inr g ↦ absurd (none-some v (rw g at e))
      | inl g ↦
          let below : digit_value b < 16 = grind (arith, nat_tests, g) in
          let more = written digits (high * 16 + digit_value b) v parts.1 (rw g at e) in
          let digit : v / 2 ^ (4 * length digits) % 16 ≡ digit_value b = low_digit high (digit_value b) (v / 2 ^ (4 * length digits)) more.1 below in
          (rw (digit, glyph_of b parts.0, more.0) refl, high_part high (digit_value b) v (length digits) more.1 below)
    ]

below_tells : (w : ℕ) (o : Option ℕ) (n : ℕ) → below w o ≡ Some n → (o ≡ Some n) × (n < 2 ^ w)
below_tells w None n e = absurd (none-some n e)
below_tells w (Some k) n e =
    let p = cond_some (nat_lt k (2 ^ w)) k n e in
    (ap Some p.1, subst (λ z. z < 2 ^ w) p.1 (ltb-true k (2 ^ w) p.0))

pub number_tells : (w : ℕ) (text : List ℕ) (n : ℕ) → number_in w text ≡ Some n → (number w n ≡ text) × (n < 2 ^ w)
unfolding number
number_tells w text n e =
    let form = cond_then (length text == digits_of w && list_all is_digit text) (below w (hex_number 16 text)) n e in
    let parts = and_parts (length text == digits_of w) (list_all is_digit text) form.0 in
    let small = below_tells w (hex_number 16 text) n form.1 in
    let read = cond_then (nat_lt 0 (length text) && nat_le (length text) 16) (hex_from 0 text) n small.0 in
    let long : length text ≡ digits_of w = eqb-true (length text) (digits_of w) parts.0 in
    (subst (λ d. hex_digits d n ≡ text) long (written text 0 n parts.1 read.1).0, small.1)

-- only a width has numbers
pub number_width : (w : ℕ) (text : List ℕ) (n : ℕ) → number_in w text ≡ Some n → IsWidth w
number_width w text n e =
    let form = cond_then (length text == digits_of w && list_all is_digit text) (below w (hex_number 16 text)) n e in
    let parts = and_parts (length text == digits_of w) (list_all is_digit text) form.0 in
    let small = below_tells w (hex_number 16 text) n form.1 in
    let read = cond_then (nat_lt 0 (length text) && nat_le (length text) 16) (hex_from 0 text) n small.0 in
    let size = and_parts (nat_lt 0 (length text)) (nat_le (length text) 16) read.0 in
    let long : length text ≡ digits_of w = eqb-true (length text) (digits_of w) parts.0 in
    let some = ltb-true 0 (length text) size.0 in
    let few = leb-true (length text) 16 size.1 in
    (omega (arith, long, some, few), omega (arith, long, some, few))

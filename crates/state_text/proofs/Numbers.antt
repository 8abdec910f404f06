-- Numbers and keys are read as they are written.
use Rattle.std.proofs.Common.{◌≡◌, ◌+◌, ◌*◌, ◌/◌, ◌%◌, ◌<◌, ◌≤◌, ◌^◌, ◌&&◌, ◌==◌, ℕ, zero, suc, true, false, List, [], ◌∷◌, length, Some, nat_le, nat_lt, refl, ap, ◌∙◌, inl, inr, arith}
use Rattle.std.proofs.lemmas.Bool.{cases_Bool, cases_lt}
use Rattle.std.proofs.lemmas.Bool.Decides.{nat_tests}
use Rattle.std.proofs.Math.Nat.{pow-le-pow_right, mod-eq_of_lt, mul_assoc, add-mul}
use Rattle.std.proofs.lemmas.Nat.{mod-pow-add, pow-add}
use Rattle.std.proofs.lemmas.Fmt.{decimal_digit, decimal_step}
use Rattle.std.specs.Char.{digit_value}
use Rattle.std.specs.Fmt.{decimal, digit_glyph}
use Rattle.std.specs.List.{list_all}
use Rattle.state_cell_text.specs.Digits.{hex_from, hex_number, hex_digits, digits_of, decimal_from, decimal_number, is_plain}
use Rattle.state_text.specs.Forms.{is_word_byte, is_key}

-- ---- hex digits

glyph_value : (d : ℕ) → d < 16 → digit_value (digit_glyph false d) ≡ d
glyph_value d h = grind (arith, nat_tests, h)

four : (value n : ℕ) → value % 2 ^ (4 * suc n) ≡ (value / 2 ^ (4 * n) % 16) * 2 ^ (4 * n) + value % 2 ^ (4 * n)
four value n = let e : 4 * suc n ≡ 4 + 4 * n = omega arith in rw e (mod-pow-add value 4 (4 * n))

spread : (high d c low : ℕ) → (high * 16 + d) * c + low ≡ high * (16 * c) + (d * c + low)
spread high d c low = rw (add-mul (high * 16) d c, mul_assoc high 16 c) (omega arith)

more : (high d n low all : ℕ) → all ≡ d * 2 ^ (4 * n) + low → (high * 16 + d) * 2 ^ (4 * n) + low ≡ high * 2 ^ (4 * suc n) + all
more high d n low all e =
    let s : 4 * suc n ≡ 4 + 4 * n = omega arith in
    let p = pow-add 2 4 (4 * n) in
    rw (e, s, p) (spread high d (2 ^ (4 * n)) low)

hex_read : (n high value : ℕ) → hex_from high (hex_digits n value) ≡ Some (high * 2 ^ (4 * n) + value % 2 ^ (4 * n))
hex_read zero high value = ap Some (omega arith)
hex_read (suc n) high value =
    let d = value / 2 ^ (4 * n) % 16 in
    let below : d < 16 = omega arith in
    let digit : digit_value (digit_glyph false d) ≡ d = glyph_value d below in
    let is_digit : nat_lt (digit_value (digit_glyph false d)) 16 ≡ true = rw digit (grind (arith, nat_tests, below)) in
    let value_is : value % 2 ^ (4 * suc n) ≡ d * 2 ^ (4 * n) + value % 2 ^ (4 * n) = four value n in
    rw (is_digit, digit, hex_read n (high * 16 + d) value) (ap Some (more high d n (value % 2 ^ (4 * n)) (value % 2 ^ (4 * suc n)) value_is))

hex_length : (n value : ℕ) → length (hex_digits n value) ≡ n
hex_length zero value = refl
hex_length (suc n) value = ap suc (hex_length n value)

-- a number of a width, in as many digits as may be read
pub number_read : (most width value : ℕ) → 1 ≤ width → digits_of width ≤ most → value < 2 ^ width → hex_number most (hex_digits (digits_of width) value) ≡ Some value
number_read most width value some narrow small =
    let count : length (hex_digits (digits_of width) value) ≡ digits_of width = hex_length (digits_of width) value in
    let few : (nat_lt 0 (digits_of width) && nat_le (digits_of width) most) ≡ true = grind (arith, nat_tests, some, narrow) in
    let up : 2 ^ width ≤ 2 ^ (4 * digits_of width) = pow-le-pow_right {n = 2} (omega arith) {i = width} {j = 4 * digits_of width} (omega arith) in
    let same : value % 2 ^ (4 * digits_of width) ≡ value = mod-eq_of_lt (omega (arith, small, up)) in
    rw (count, few, hex_read (digits_of width) 0 value, same) (ap Some (omega arith))

glyph_word : (d : ℕ) → d < 16 → is_word_byte (digit_glyph false d) ≡ true
glyph_word d h = grind (arith, nat_tests, h)

pub hex_word : (n value : ℕ) → list_all is_word_byte (hex_digits n value) ≡ true
hex_word zero value = refl
hex_word (suc n) value =
    let below : value / 2 ^ (4 * n) % 16 < 16 = omega arith in
    rw (glyph_word (value / 2 ^ (4 * n) % 16) below) (hex_word n value)

pub hex_key : (n value : ℕ) → 1 ≤ n → is_key (hex_digits n value) ≡ true
hex_key zero value h = absurd (omega (arith, h))
hex_key (suc n) value h = hex_word (suc n) value

-- ---- decimal keys below 256

digit_is : (d : ℕ) → d < 10 → digit_value (48 + d) ≡ d
digit_is d h = grind (arith, nat_tests, h)

digit_word : (d : ℕ) → d < 10 → is_word_byte (48 + d) ≡ true
digit_word d h = grind (arith, nat_tests, h)

digit_on : (high d : ℕ) (rest : List ℕ) → d < 10 → decimal_from high ((48 + d) ∷ rest) ≡ decimal_from (high * 10 + d) rest
digit_on high d rest h =
    let small : nat_lt d 10 ≡ true = grind (arith, nat_tests, h) in
    rw (digit_is d h, small) refl

plain_one : (b : ℕ) → is_plain (b ∷ []) ≡ true
plain_one b = elim (cases_Bool (b == 48)) [ inl e ↦ rw e refl | inr e ↦ rw e refl ]

plain_two : (d e : ℕ) → 1 ≤ d → is_plain ((48 + d) ∷ e ∷ []) ≡ true
plain_two d e h = let k : (48 + d == 48) ≡ false = grind (arith, nat_tests, h) in rw k refl

plain_three : (d e f : ℕ) → 1 ≤ d → is_plain ((48 + d) ∷ e ∷ f ∷ []) ≡ true
plain_three d e f h = let k : (48 + d == 48) ≡ false = grind (arith, nat_tests, h) in rw k refl

-- a text is that of a key, in decimal
abbrev IsDecimalOf : ℕ → List ℕ → Type 0
IsDecimalOf n text = (decimal_number text ≡ Some n) × (is_key text ≡ true)

of_one : (n : ℕ) → n < 10 → IsDecimalOf n ((48 + n) ∷ [])
of_one n h = (
  rw (plain_one (48 + n), digit_on 0 n [] h) (ap Some (omega arith)),
  rw (digit_word n h) refl,
)

of_two : (n : ℕ) → 10 ≤ n → n < 100 → IsDecimalOf n ((48 + n / 10) ∷ (48 + n % 10) ∷ [])
of_two n low high =
    let d : n / 10 < 10 = omega arith in
    let e : n % 10 < 10 = omega arith in
    let some : 1 ≤ n / 10 = omega arith in (
      rw (plain_two (n / 10) (48 + n % 10) some, digit_on 0 (n / 10) ((48 + n % 10) ∷ []) d, digit_on (0 * 10 + n / 10) (n % 10) [] e) (ap Some (omega arith)),
      rw (digit_word (n / 10) d, digit_word (n % 10) e) refl,
    )

of_three : (n : ℕ) → 100 ≤ n → n < 1000 → IsDecimalOf n ((48 + n / 10 / 10) ∷ (48 + n / 10 % 10) ∷ (48 + n % 10) ∷ [])
of_three n low high =
    let d : n / 10 / 10 < 10 = omega arith in
    let e : n / 10 % 10 < 10 = omega arith in
    let f : n % 10 < 10 = omega arith in
    let some : 1 ≤ n / 10 / 10 = omega arith in (
      rw (
        plain_three (n / 10 / 10) (48 + n / 10 % 10) (48 + n % 10) some,
        digit_on 0 (n / 10 / 10) ((48 + n / 10 % 10) ∷ (48 + n % 10) ∷ []) d,
        digit_on (0 * 10 + n / 10 / 10) (n / 10 % 10) ((48 + n % 10) ∷ []) e,
        digit_on ((0 * 10 + n / 10 / 10) * 10 + n / 10 % 10) (n % 10) [] f,
      ) (ap Some (omega arith)),
      rw (digit_word (n / 10 / 10) d, digit_word (n / 10 % 10) e, digit_word (n % 10) f) refl,
    )

two_digits : (n : ℕ) → 10 ≤ n → n < 100 → decimal n ≡ (48 + n / 10) ∷ (48 + n % 10) ∷ []
two_digits n low high =
    let small : n < 2 ^ 64 = omega arith in
    let d : n / 10 < 10 = omega arith in
    decimal_step n low small ∙ rw (decimal_digit (n / 10) d) refl

three_digits : (n : ℕ) → 100 ≤ n → n < 1000 → decimal n ≡ (48 + n / 10 / 10) ∷ (48 + n / 10 % 10) ∷ (48 + n % 10) ∷ []
three_digits n low high =
    let some : 10 ≤ n = omega arith in
    let small : n < 2 ^ 64 = omega arith in
    let l : 10 ≤ n / 10 = omega arith in
    let h : n / 10 < 100 = omega arith in
    decimal_step n some small ∙ rw (two_digits (n / 10) l h) refl

-- a key of at most 8 bits is read as it is written
pub decimal_key : (n : ℕ) → n < 256 → IsDecimalOf n (decimal n)
decimal_key n h = elim (cases_lt n 10) [
  | inl one ↦ rw (decimal_digit n one) (of_one n one)
  | inr some ↦ elim (cases_lt n 100) [
    | inl two ↦ rw (two_digits n some two) (of_two n some two)
    | inr many ↦
        let high : n < 1000 = omega arith in
        rw (three_digits n many high) (of_three n many high)
  ]
]

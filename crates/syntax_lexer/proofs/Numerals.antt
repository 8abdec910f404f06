-- Digits in a base, read from the front.
use Rattle.std.proofs.Common.{◌≡◌, ◌≢◌, ℕ, ◌+◌, ◌*◌, ◌^◌, ◌<◌, ◌≤◌, Bool, List, [], ◌∷◌, ◌++◌, length, drop, get_or, refl, sym, subst, arith, drop-cons, add-one}
use Rattle.std.specs.Prelude.{codes}
use Rattle.std.proofs.Math.Nat.{mul-le-mul_left}
use Rattle.std.proofs.lemmas.List.{drop_all}
use Rattle.std.specs.Char.{digit_value}
use Rattle.syntax_lexer.specs.Bytes.{Passes, IsRun}
use Rattle.syntax_lexer.specs.Lexeme as lexeme
use Rattle.syntax_lexer.specs.Lexeme.{is_digit_of, value_from, IsNumeral, IsNumber}

-- the first of the digits that are left
pub value_step : (base high : ℕ) (s : List ℕ) (i : ℕ) → i < length s
    → value_from base high (drop i s) ≡ value_from base (high * base + digit_value (get_or s i 0)) (drop (i + 1) s)
value_step base high s i below = rw (add-one, drop-cons s i 0) refl

-- digits behind a number make it no less
pub at_least : (base high : ℕ) (bytes : List ℕ) → 0 < base → high ≤ value_from base high bytes
at_least base high [] some = omega arith
at_least base high (b ∷ bytes) some =
    let more : high * 1 ≤ high * base = mul-le-mul_left high some in
    let rest : high * base + digit_value b ≤ value_from base (high * base + digit_value b) bytes = at_least base (high * base + digit_value b) bytes some in
    omega arith

pub run_of : (test : ℕ → Bool) (s : List ℕ) → 0 < length s → Passes test s → IsRun test test s
run_of test [] some passes = absurd (omega arith)
run_of test (b ∷ s) some passes = (passes.0, passes)

pub run_passes : (first test : ℕ → Bool) (s : List ℕ) → IsRun first test s → Passes test s
run_passes first test [] run = tt
run_passes first test (b ∷ s) run = run.1

-- where the next digit passes 2^64, so does the whole
pub too_large : (base high : ℕ) (s : List ℕ) (i n : ℕ) → 0 < base → i < length s → value_from base 0 s ≡ value_from base high (drop i s)
    → 2 ^ 64 ≤ high * base + digit_value (get_or s i 0) → ¬ IsNumeral base s n
too_large base high s i n some below value large numeral =
    let more = at_least base (high * base + digit_value (get_or s i 0)) (drop (i + 1) s) some in
    let step = value_step base high s i below in
    let whole = numeral.value in
    let small = numeral.small in
    omega arith

-- where all digits are read, they are a numeral
pub numeral_whole : (base n : ℕ) (s : List ℕ) (i : ℕ) → 0 < length s → length s ≤ i → value_from base 0 s ≡ value_from base n (drop i s)
    → (Passes (is_digit_of base) (drop i s) → Passes (is_digit_of base) s) → n < 2 ^ 64 → IsNumeral base s n
numeral_whole base n s i some all value out small =
    let none : drop i s ≡ [] = drop_all i s all in
    record {
      run = run_of (is_digit_of base) s some (out (rw none tt));
      value = rw none at value;
      small = small;
    }

-- behind `0x` stand hexadecimal digits
pub hex_number : (s digits : List ℕ) (n : ℕ) → s ≡ codes "0x" ++ digits → IsNumeral 16 digits n → IsNumber s n
hex_number s digits n e numeral = subst (λ (x : List ℕ). IsNumber x n) (sym e) (lexeme.hexadecimal numeral)

pub no_hex_number : (s digits : List ℕ) → s ≡ codes "0x" ++ digits → ((n : ℕ) → ¬ IsNumeral 16 digits n) → (n : ℕ) → ¬ IsNumber s n
no_hex_number s digits e none n (lexeme.decimal numeral) =
    let run : IsRun (is_digit_of 10) (is_digit_of 10) (codes "0x" ++ digits) = subst (λ (x : List ℕ). IsRun (is_digit_of 10) (is_digit_of 10) x) e numeral.run in
    let no = run.1.1.0 in cc
no_hex_number s digits e none n (lexeme.hexadecimal {digits = digits'} numeral) =
    let same : digits' ≡ digits = cc in none n (subst (λ (x : List ℕ). IsNumeral 16 x n) same numeral)

-- and elsewhere decimal ones
pub no_decimal : (s : List ℕ) → ((digits : List ℕ) → s ≢ codes "0x" ++ digits) → ((n : ℕ) → ¬ IsNumeral 10 s n) → (n : ℕ) → ¬ IsNumber s n
no_decimal s apart none n (lexeme.decimal numeral) = none n numeral
no_decimal s apart none n (lexeme.hexadecimal {digits = digits} numeral) = apart digits refl

pub decimal_number : (s : List ℕ) (n : ℕ) → IsNumeral 10 s n → IsNumber s n
decimal_number s n numeral = lexeme.decimal numeral

-- Texts of digits.
use Rattle.std.proofs.Common.{◌≡◌, ◌≢◌, ℕ, ◌<◌, ◌≤◌, Bool, true, false, List, [], ◌∷◌, length, refl, ap, subst, arith, sym, ◌∙◌, lt-ltb, le-leb, le-ltb, ltb-true, ltb-false, ◌^◌, Some, None, ◌&&◌, get_or, eq-eqb}
use Rattle.std.specs.Char.{is_ascii_digit, is_ascii_hexdigit, is_digit, digit_value}
use Rattle.std.specs.List.{list_all}
use Rattle.std.specs.Prelude.{Result, Ok, Err, OkIff, if◌then◌else◌, nat_le, nat_lt, ◌==◌}
use Rattle.std.specs.Result.{result_ok}
use Rattle.std.specs.Str.Parse.{AllDigits, IsNumeral, ParsesUnsigned, digits_value}
use Rattle.support_command_line.specs.Numbers.{address_in, decimal_in, number_in}
use Rattle.std.proofs.lemmas.Str.Parse.{without_leading_plus_none}
use Rattle.std.proofs.lemmas.Bool.{lt-leb}
use Rattle.std.proofs.lemmas.Grind.{common_steps}

both : (a b : Bool) → a && b ≡ true → (a ≡ true) × (b ≡ true)
both true b h = (refl, h)
both false b h = cc

and_false : (b : Bool) → b && false ≡ false
and_false true = refl
and_false false = refl

same_bool : (a b : Bool) → (a ≡ true → b ≡ true) → (b ≡ true → a ≡ true) → a ≡ b
same_bool true b f g = sym (f refl)
same_bool false true f g = g refl
same_bool false false f g = refl

-- the digits of each radix, by their ranges and by their values
hex_below : (c : ℕ) → is_ascii_hexdigit c ≡ true → digit_value c < 16
hex_below c h = grind (arith, common_steps)

hex_from : (c : ℕ) → digit_value c < 16 → is_ascii_hexdigit c ≡ true
hex_from c h = grind (arith, common_steps)

decimal_below : (c : ℕ) → is_ascii_digit c ≡ true → digit_value c < 10
decimal_below c h = grind (arith, common_steps)

decimal_from : (c : ℕ) → digit_value c < 10 → is_ascii_digit c ≡ true
decimal_from c h = grind (arith, common_steps)

same_test : (radix : ℕ) (test : ℕ → Bool) → ((c : ℕ) → test c ≡ true → digit_value c < radix) → ((c : ℕ) → digit_value c < radix → test c ≡ true) → (c : ℕ) → is_digit c radix ≡ test c
same_test radix test below from c = same_bool (is_digit c radix) (test c) (λ h. from c (ltb-true (digit_value c) radix h)) (λ h. lt-ltb (digit_value c) radix (below c h))

same_all : (p q : ℕ → Bool) → ((c : ℕ) → p c ≡ q c) → (text : List ℕ) → list_all p text ≡ list_all q text
same_all p q same [] = refl
same_all p q same (c ∷ cs) = rw (same c, same_all p q same cs) refl

hex_all : (text : List ℕ) → list_all (λ c. is_digit c 16) text ≡ list_all is_ascii_hexdigit text
hex_all text = same_all (λ c. is_digit c 16) is_ascii_hexdigit (same_test 16 is_ascii_hexdigit hex_below hex_from) text

decimal_all : (text : List ℕ) → list_all (λ c. is_digit c 10) text ≡ list_all is_ascii_digit text
decimal_all text = same_all (λ c. is_digit c 10) is_ascii_digit (same_test 10 is_ascii_digit decimal_below decimal_from) text

-- ---- the number of a text
module _ (radix : ℕ) where
  all_digits : (text : List ℕ) → list_all (λ c. is_digit c radix) text ≡ true → AllDigits radix text
  all_digits [] h = tt
  all_digits (c ∷ cs) h = let parts = both (is_digit c radix) (list_all (λ c. is_digit c radix) cs) h in (ltb-true (digit_value c) radix parts.0, all_digits cs parts.1)

  digits_all : (text : List ℕ) → AllDigits radix text → list_all (λ c. is_digit c radix) text ≡ true
  digits_all [] h = refl
  digits_all (c ∷ cs) h = rw (lt-ltb (digit_value c) radix h.0) (digits_all cs h.1)

  none_where : (any few all small : Bool) (n : ℕ) → (any ≡ true → all ≡ true → small ≡ true → ⊥) → (if (any && few && all) && small then Some n else None) ≡ None
  none_where true true true true n never = absurd (never refl refl refl)
  none_where true true true false n never = refl
  none_where true true false small n never = refl
  none_where true false all small n never = refl
  none_where false few all small n never = refl

  by_text : {E : Type 0} (most : ℕ) (text : List ℕ) (r : Result ℕ E) → length text ≤ most → OkIff {E = E} r (IsNumeral radix text × (digits_value radix text < 2 ^ 32)) (digits_value radix text) → result_ok r ≡ number_in radix most text
  by_text most text (Ok x) short p = rw (lt-ltb 0 (length text) p.0.0.0, le-leb (length text) most short, digits_all text p.0.0.1, lt-ltb (digits_value radix text) (2 ^ 32) p.0.1) (ap (λ (n : ℕ). Some n) p.1)
  by_text most text (Err e) short p =
      sym (none_where (nat_lt 0 (length text)) (nat_le (length text) most) (list_all (λ c. is_digit c radix) text) (nat_lt (digits_value radix text) (2 ^ 32)) (digits_value radix text)
      (λ any all small. p ((ltb-true 0 (length text) any, all_digits text all), ltb-true (digits_value radix text) (2 ^ 32) small)))

  -- what `from_str_radix` gives where no plus stands first
  pub number_is : {E : Type 0} (most : ℕ) (text : List ℕ) (r : Result ℕ E) → length text ≤ most → get_or text 0 0 ≢ 43 → ParsesUnsigned 32 radix text r → result_ok r ≡ number_in radix most text
  number_is {E = E} most text r short plain p =
      by_text most text r short (subst (λ (t : List ℕ). OkIff {E = E} r (IsNumeral radix t × (digits_value radix t < 2 ^ 32)) (digits_value radix t)) (without_leading_plus_none text plain) p)

  pub too_long : (most : ℕ) (text : List ℕ) → most < length text → number_in radix most text ≡ None
  too_long most text long =
      let few : nat_le (length text) most ≡ false = lt-leb (length text) most long in
      rw (few, and_false) refl

  pub with_plus : (most : ℕ) (text : List ℕ) → radix ≤ 36 → get_or text 0 0 ≡ 43 → number_in radix most text ≡ None
  with_plus most [] small plus = cc
  with_plus most (c ∷ cs) small plus =
      let no : is_digit c radix ≡ false = ap (λ c. is_digit c radix) plus ∙ le-ltb 36 radix small in
      none_where (nat_lt 0 (length (c ∷ cs))) (nat_le (length (c ∷ cs)) most) (list_all (λ c. is_digit c radix) (c ∷ cs)) (nat_lt (digits_value radix (c ∷ cs)) (2 ^ 32)) (digits_value radix (c ∷ cs))
      (λ any all less. let yes = (both (is_digit c radix) (list_all (λ c. is_digit c radix) cs) all).0 in cc)

pub no_plus : (text : List ℕ) (plus : Bool) → plus ≡ (get_or text 0 0 == 43) → plus ≡ false → get_or text 0 0 ≢ 43
no_plus text plus is none first = let yes = eq-eqb (get_or text 0 0) 43 first in cc

-- the address of a text
pub address_is : (text : List ℕ) → number_in 16 8 text ≡ address_in text
address_is text = rw (hex_all text) refl

-- ---- the decimal number of a text
no_number : (any few all small : Bool) (least v greatest : ℕ) → (small ≡ false → nat_le v greatest ≡ false) → (if (any && few && all) && small then Some v else None) ≡ None
    → (if (any && few && all) && nat_le least v && nat_le v greatest then Some v else None) ≡ None
no_number true true true true least v greatest large none = absurd cc
no_number true true true false least v greatest large none = rw (large refl, and_false) refl
no_number true true false small least v greatest large none = refl
no_number true false all small least v greatest large none = refl
no_number false few all small least v greatest large none = refl

one_number : (any few all small : Bool) (least v greatest n : ℕ) → (if (any && few && all) && small then Some v else None) ≡ Some n
    → (if (any && few && all) && nat_le least v && nat_le v greatest then Some v else None) ≡ (if nat_le least n && nat_le n greatest then Some n else None)
one_number true true true true least v greatest n some = let same : v ≡ n = cc in ap (λ v. if nat_le least v && nat_le v greatest then Some v else None) same
one_number true true true false least v greatest n some = absurd cc
one_number true true false small least v greatest n some = absurd cc
one_number true false all small least v greatest n some = absurd cc
one_number false few all small least v greatest n some = absurd cc

module _ (most least greatest : ℕ) (text : List ℕ) where
  value : ℕ
  value = digits_value 10 text

  number_same : number_in 10 most text ≡ (if (nat_lt 0 (length text) && nat_le (length text) most && list_all is_ascii_digit text) && nat_lt (digits_value 10 text) (2 ^ 32) then Some (digits_value 10 text) else None)
  number_same = rw (decimal_all text) refl

  -- one without a number of 32 bits writes no decimal number
  pub no_decimal : greatest < 2 ^ 32 → number_in 10 most text ≡ None → decimal_in most least greatest text ≡ None
  no_decimal fits none =
      no_number (nat_lt 0 (length text)) (nat_le (length text) most) (list_all is_ascii_digit text) (nat_lt (digits_value 10 text) (2 ^ 32)) least (digits_value 10 text) greatest
      (λ e. lt-leb (digits_value 10 text) greatest (omega (arith, ltb-false (digits_value 10 text) (2 ^ 32) e))) (sym number_same ∙ none)

  -- of one with a number the bounds decide
  pub decimal_is : (n : ℕ) → number_in 10 most text ≡ Some n → decimal_in most least greatest text ≡ (if nat_le least n && nat_le n greatest then Some n else None)
  decimal_is n some =
      one_number (nat_lt 0 (length text)) (nat_le (length text) most) (list_all is_ascii_digit text) (nat_lt (digits_value 10 text) (2 ^ 32)) least (digits_value 10 text) greatest n (sym number_same ∙ some)

-- The form that a line has is the one that is computed.
use Rattle.std.proofs.Common.{◌≡◌, ◌+◌, ◌≤◌, ◌==◌, ◌&&◌, ℕ, suc, Bool, true, false, not, List, [], ◌∷◌, ◌++◌, length, take, drop, replicate, Option, Some, None, Ok, cond, ◌*◌, refl, sym, ap, ◌∙◌, inl, inr, arith, nat_lt, nat_le, bytes_eq, codes, append_assoc, length-append}
use Rattle.std.proofs.Math.Seq.{take-append_seam, drop-append_seam}
use Rattle.std.proofs.lemmas.Bool.{and_parts, cases_Bool, not-true as not_true}
use Rattle.std.proofs.lemmas.Bool.Decides.{nat_tests}
use Rattle.std.proofs.lemmas.List.Elements.{All-head}
use Rattle.std.proofs.lemmas.Option.{none-some}
use Rattle.std.specs.Char.{digit_value}
use Rattle.std.specs.List.{prefix_len, list_all}
use Rattle.hex.specs.Hex.{decode_of, is_hex_digit}
use Rattle.hex.proofs.HexLemmas.{decode_of-ok}
use Rattle.semantics_values.specs.declared.entry.GivenNumber.{GivenNumber}
use Rattle.semantics_values.specs.declared.entry.GivenNumber.TheVariants.{One, Any, Range}
use Rattle.state_cell_text.specs.Digits.{hex_from, hex_number}
use Rattle.state_text.specs.Forms.{Form, single, run, most_run, CellSuffix, whole, rest, at, from, HasForm, IsOnePart, IsRun, IsValue, begins_name, is_key, is_mark, is_name, is_word_byte, part_text}
use Rattle.state_text.specs.Parsing.{after_cell, cut_closing, cut, cut_at, form, formed, is_no_dot, is_space, range, run_of as bytes_of, value_of}
use Rattle.state_text.proofs.Bytes.{apart, begins_more, behind_spaces, run_of, spaces_of}
use Rattle.spec_ir.proofs.Entered.{same_name as same_text}

-- ---- the cell

-- what the name of a line shows
pub record NameParts (name : List ℕ) : Type 0 where
  pub begins : begins_name name ≡ true
  pub word : list_all is_word_byte name ≡ true
  pub no_mark : is_mark name ≡ false

pub name_parts : (name : List ℕ) → is_name name ≡ true → NameParts name
name_parts name h =
    let first = and_parts (begins_name name) (list_all is_word_byte name && not (is_mark name)) h in
    let more = and_parts (list_all is_word_byte name) (not (is_mark name)) first.1 in
    record { begins = first.0; word = more.0; no_mark = not_true (is_mark name) more.1 }

cut_whole : (name more : List ℕ) → NameParts name → cut (name ++ 32 ∷ more) ≡ cut_at name whole (32 ∷ more)
cut_whole name more p =
    rw (begins_more name (32 ∷ more) p.begins, run_of is_word_byte name 32 more p.word refl, take-append_seam name (32 ∷ more), drop-append_seam name (32 ∷ more), p.no_mark) refl

cut_bracket : (name bytes : List ℕ) → NameParts name
    → cut (name ++ 91 ∷ bytes) ≡ cut_closing name (take (prefix_len is_word_byte bytes) bytes) (drop (prefix_len is_word_byte bytes) bytes)
cut_bracket name bytes p =
    rw (begins_more name (91 ∷ bytes) p.begins, run_of is_word_byte name 91 bytes p.word refl, take-append_seam name (91 ∷ bytes), drop-append_seam name (91 ∷ bytes), p.no_mark) refl

-- behind the text of a key
cut_key : (name key : List ℕ) (y : ℕ) (ys : List ℕ) → NameParts name → list_all is_word_byte key ≡ true → is_word_byte y ≡ false
    → cut (name ++ 91 ∷ (key ++ y ∷ ys)) ≡ cut_closing name key (y ∷ ys)
cut_key name key y ys p word other =
    cut_bracket name (key ++ y ∷ ys) p ∙ rw (run_of is_word_byte key y ys word other, take-append_seam key (y ∷ ys), drop-append_seam key (y ∷ ys)) refl

pub key_word : (key : List ℕ) → is_key key ≡ true → list_all is_word_byte key ≡ true
key_word [] h = absurd (let bad : false ≡ true = h in cc)
key_word (k ∷ key) h = h

closed_at : (name key more : List ℕ) → is_key key ≡ true → cut_closing name key (93 ∷ more) ≡ cut_at name (at key) more
closed_at name [] more h = absurd (let bad : false ≡ true = h in cc)
closed_at name (k ∷ key) more h = refl

closed_from : (name key more : List ℕ) → is_key key ≡ true → cut_closing name key (46 ∷ 46 ∷ 93 ∷ more) ≡ cut_at name (from key) more
closed_from name [] more h = absurd (let bad : false ≡ true = h in cc)
closed_from name (k ∷ key) more h = refl

-- a part that may stand behind a name
abbrev pub IsPart : CellSuffix → Type 0
IsPart whole = Unit {0}
IsPart rest = Unit {0}
IsPart (at key) = is_key key ≡ true
IsPart (from key) = is_key key ≡ true

pub cut_is : (name : List ℕ) (part : CellSuffix) (more : List ℕ) → is_name name ≡ true → IsPart part → cut (name ++ (part_text part ++ 32 ∷ more)) ≡ cut_at name part (32 ∷ more)
cut_is name whole more h p = cut_whole name more (name_parts name h)
cut_is name rest more h p = cut_bracket name (42 ∷ 93 ∷ 32 ∷ more) (name_parts name h)
cut_is name (at key) more h p =
    rw (append_assoc key (93 ∷ []) (32 ∷ more)) (cut_key name key 93 (32 ∷ more) (name_parts name h) (key_word key p) refl ∙ closed_at name key (32 ∷ more) p)
cut_is name (from key) more h p =
    rw (append_assoc key (46 ∷ 46 ∷ 93 ∷ []) (32 ∷ more)) (cut_key name key 46 (46 ∷ 93 ∷ 32 ∷ more) (name_parts name h) (key_word key p) refl ∙ closed_from name key (32 ∷ more) p)

-- ---- the value

-- behind the spaces
after_spaces : (name : List ℕ) (part : CellSuffix) (n : ℕ) (value : List ℕ) → prefix_len is_space value ≡ 0
    → after_cell (cut_at name part (32 ∷ (replicate n 32 ++ value))) ≡ formed name part value
after_spaces name part n value none =
    let e : 1 + n ≡ suc n = omega arith in
    let some : nat_lt 0 (1 + n) ≡ true = grind (arith, nat_tests) in
    rw (spaces_of n value none, some, e, behind_spaces n value) refl

none_or : (t : Bool) (v : ℕ) → (cond t None None) ≡ Some v → ⊥
none_or true v h = none-some v h
none_or false v h = none-some v h

hex_first : (most b : ℕ) (bytes : List ℕ) (v : ℕ) → hex_number most (b ∷ bytes) ≡ Some v → nat_lt (digit_value b) 16 ≡ true
hex_first most b bytes v h = elim (cases_Bool (nat_lt (digit_value b) 16)) [
  | inl e ↦ e
  | inr e ↦ absurd (none_or (nat_lt 0 (length (b ∷ bytes)) && nat_le (length (b ∷ bytes)) most) v (rw e at h))
]

no_space : (b : ℕ) (bytes : List ℕ) → (b == 32) ≡ false → prefix_len is_space (b ∷ bytes) ≡ 0
no_space b bytes e = rw e refl

hex_no_space : (most : ℕ) (text : List ℕ) (v : ℕ) (more : List ℕ) → hex_number most text ≡ Some v → prefix_len is_space (text ++ more) ≡ 0
hex_no_space most [] v more h = absurd (none-some v h)
hex_no_space most (b ∷ bytes) v more h = no_space b (bytes ++ more) (apart (λ c. nat_lt (digit_value c) 16) b 32 (hex_first most b bytes v h) refl)

number_no_space : (most : ℕ) (text : List ℕ) (v : ℕ) → hex_number most text ≡ Some v → prefix_len is_space text ≡ 0
number_no_space most [] v h = refl
number_no_space most (b ∷ bytes) v h = no_space b bytes (apart (λ c. nat_lt (digit_value c) 16) b 32 (hex_first most b bytes v h) refl)

not_any : (text : List ℕ) (v : ℕ) → hex_number 16 text ≡ Some v → bytes_eq text (codes "any") ≡ false
not_any text v h = elim (cases_Bool (bytes_eq text (codes "any"))) [
  | inl e ↦ absurd (none-some v (rw (same_text text (codes "any") e) at h))
  | inr e ↦ e
]

-- digits up to a dot are no number
dotted : (high : ℕ) (a more : List ℕ) → hex_from high (a ++ 46 ∷ more) ≡ None
dotted high [] more = refl
dotted high (x ∷ a) more = elim (cases_Bool (nat_lt (digit_value x) 16)) [
  | inl e ↦ rw e (dotted (high * 16 + digit_value x) a more)
  | inr e ↦ rw e refl
]

if_none : (t : Bool) (x : Option ℕ) → x ≡ None → (cond t x None) ≡ None
if_none true x h = h
if_none false x h = refl

no_number : (a more : List ℕ) → hex_number 16 (a ++ 46 ∷ more) ≡ None
no_number a more = if_none (nat_lt 0 (length (a ++ 46 ∷ more)) && nat_le (length (a ++ 46 ∷ more)) 16) (hex_from 0 (a ++ 46 ∷ more)) (dotted 0 a more)

digits_no_dot : (high : ℕ) (a : List ℕ) (v : ℕ) → hex_from high a ≡ Some v → list_all is_no_dot a ≡ true
digits_no_dot high [] v h = refl
digits_no_dot high (x ∷ a) v h = elim (cases_Bool (nat_lt (digit_value x) 16)) [
  | inl e ↦
      let d : (x == 46) ≡ false = apart (λ c. nat_lt (digit_value c) 16) x 46 e refl in
      rw d (digits_no_dot (high * 16 + digit_value x) a v (rw e at h))
  | inr e ↦ absurd (none-some v (rw e at h))
]

number_no_dot : (a : List ℕ) (v : ℕ) → hex_number 16 a ≡ Some v → list_all is_no_dot a ≡ true
number_no_dot a v h = elim (cases_Bool (nat_lt 0 (length a) && nat_le (length a) 16)) [
  | inl e ↦ digits_no_dot 0 a v (rw e at h)
  | inr e ↦ absurd (none-some v (rw e at h))
]

past_dots : (a b : List ℕ) → drop (length a + 2) (a ++ 46 ∷ 46 ∷ b) ≡ b
past_dots [] b = refl
past_dots (x ∷ a) b = let e : suc (length a) + 2 ≡ suc (length a + 2) = omega arith in rw e (past_dots a b)

range_not_any : (a b : List ℕ) → list_all is_no_dot a ≡ true → bytes_eq (a ++ 46 ∷ 46 ∷ b) (codes "any") ≡ false
range_not_any a b h = elim (cases_Bool (bytes_eq (a ++ 46 ∷ 46 ∷ b) (codes "any"))) [
  | inl e ↦
      let same = same_text (a ++ 46 ∷ 46 ∷ b) (codes "any") e in
      let count : 3 ≡ length a = sym (ap (prefix_len is_no_dot) same) ∙ run_of is_no_dot a 46 (46 ∷ b) h refl in
      let all : length a + suc (suc (length b)) ≡ 3 = sym (length-append a (46 ∷ 46 ∷ b)) ∙ ap length same in
      absurd (omega (arith, count, all))
  | inr e ↦ e
]

range_is : (a b : List ℕ) (lo hi : ℕ) → hex_number 16 a ≡ Some lo → hex_number 16 b ≡ Some hi → lo ≤ hi → range (a ++ 46 ∷ 46 ∷ b) ≡ Some (Range lo hi)
range_is a b lo hi p q h =
    let le : nat_le lo hi ≡ true = grind (arith, nat_tests, h) in
    rw (run_of is_no_dot a 46 (46 ∷ b) (number_no_dot a lo p) refl, drop-append_seam a (46 ∷ 46 ∷ b), take-append_seam a (46 ∷ 46 ∷ b), past_dots a b, p, q, le) refl

value_is : (given : GivenNumber) (text : List ℕ) → IsValue given text → value_of text ≡ Some given
value_is (One v) text h = rw (not_any text v h, h) refl
value_is Any text h = rw h refl
value_is (Range lo hi) text h =
    let a = h.0 in
    let b = h.1 in
    rw (h.2, range_not_any a b (number_no_dot a lo h.3), no_number a (46 ∷ b)) (range_is a b lo hi h.3 h.4 h.5)

value_no_space : (given : GivenNumber) (text : List ℕ) → IsValue given text → prefix_len is_space text ≡ 0
value_no_space (One v) text h = number_no_space 16 text v h
value_no_space Any text h = rw h refl
value_no_space (Range lo hi) text h = rw h.2 (hex_no_space 16 h.0 lo (46 ∷ 46 ∷ h.1) h.3)

-- ---- the run

digit_no_space : (text bytes : List ℕ) → decode_of text ≡ Ok bytes → prefix_len is_space text ≡ 0
digit_no_space [] bytes h = refl
digit_no_space (b ∷ text) bytes h =
    let parts = decode_of-ok (b ∷ text) bytes h in
    no_space b text (apart is_hex_digit b 32 (All-head (λ c. is_hex_digit c ≡ true) b text parts.1) refl)

run_is : (bytes text : List ℕ) → IsRun bytes text → bytes_of text ≡ Some bytes
run_is bytes text h =
    let count : (nat_lt 0 (length bytes) && nat_le (length bytes) most_run) ≡ true = grind (arith, nat_tests, h.1, h.2) in
    rw (h.0, count) refl

-- ---- the line

formed_single : (name : List ℕ) (part : CellSuffix) (given : GivenNumber) (value : List ℕ) → IsOnePart part → value_of value ≡ Some given → formed name part value ≡ Some (single name part given)
formed_single name whole given value p h = rw h refl
formed_single name rest given value p h = rw h refl
formed_single name (at key) given value p h = rw h refl
formed_single name (from key) given value p h = absurd p

one_is_part : (part : CellSuffix) → IsOnePart part → IsPart part
one_is_part whole p = p
one_is_part rest p = p
one_is_part (at key) p = p
one_is_part (from key) p = absurd p

pub computed : (line : List ℕ) (f : Form) → HasForm line f → form line ≡ Some f
computed line (single name part given) h =
    let value = h.0 in
    rw (h.1.1, cut_is name part (replicate h.1.0 32 ++ value) h.2 (one_is_part part h.3), after_spaces name part h.1.0 value (value_no_space given value h.4)) (formed_single name part given value h.3 (value_is given value h.4))
computed line (run name key bytes) h =
    let value = h.0 in
    rw (h.1.1, cut_is name (from key) (replicate h.1.0 32 ++ value) h.2 h.3, after_spaces name (from key) h.1.0 value (digit_no_space value bytes h.4.0), run_is bytes value h.4) refl

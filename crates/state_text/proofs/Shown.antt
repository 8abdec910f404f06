-- The form that is computed of a line is one that it has.
use Rattle.std.proofs.Common.{◌≡◌, ◌+◌, ◌-◌, ◌<◌, ◌≤◌, ◌==◌, ◌&&◌, ◌||◌, ℕ, zero, suc, Bool, true, false, List, [], ◌∷◌, ◌++◌, length, take, drop, replicate, Option, Some, None, Result, Ok, Err, option_map, refl, sym, subst, ap, ◌∙◌, inl, inr, arith, nat_lt, nat_le, bytes_eq, codes, append_assoc}
use Rattle.std.proofs.lemmas.Bool.{and_parts, cases_Bool, eqb-true as same_byte}
use Rattle.std.proofs.lemmas.Bool.Decides.{nat_tests}
use Rattle.std.proofs.lemmas.List.{take-append-drop}
use Rattle.std.proofs.lemmas.Option.{none-some, same_Some}
use Rattle.std.specs.Char.{is_ascii_alphabetic}
use Rattle.std.specs.List.{prefix_len, list_all}
use Rattle.hex.specs.Hex.{decode_of}
use Rattle.hex.specs.declared.error.FromHexError.{FromHexError}
use Rattle.semantics_values.specs.declared.entry.GivenNumber.{GivenNumber}
use Rattle.semantics_values.specs.declared.entry.GivenNumber.TheVariants.{One, Any, Range}
use Rattle.state_cell_text.specs.Digits.{hex_number}
use Rattle.state_text.specs.Forms.{Form, single, run, most_run, CellSuffix, whole, rest, at, from, HasForm, IsOnePart, IsRun, IsValue, begins_name, is_mark, is_name, is_word_byte, part_text}
use Rattle.state_text.specs.Parsing.{Cut, after_cell, begins_dots, behind_dot, behind_key, behind_star, cut_closing, counted, cut, form, formed, is_no_dot, is_space, cut_name, one_or, range, range_of, run_of, value_of}
use Rattle.state_text.proofs.Computed.{IsPart}
use Rattle.spec_ir.proofs.Entered.{same_name as same_text}

take_passes : (test : ℕ → Bool) (xs : List ℕ) → list_all test (take (prefix_len test xs) xs) ≡ true
take_passes test [] = refl
take_passes test (x ∷ xs) = elim (cases_Bool (test x)) [
  | inl e ↦ let n : 1 + prefix_len test xs ≡ suc (prefix_len test xs) = omega arith in rw (e, n, e) (take_passes test xs)
  | inr e ↦ rw e refl
]

take_spaces : (xs : List ℕ) → take (prefix_len is_space xs) xs ≡ replicate (prefix_len is_space xs) 32
take_spaces [] = refl
take_spaces (x ∷ xs) = elim (cases_Bool (x == 32)) [
  | inl e ↦
      let n : 1 + prefix_len is_space xs ≡ suc (prefix_len is_space xs) = omega arith in
      rw (e, n, same_byte x 32 e) (ap (λ (l : List ℕ). 32 ∷ l) (take_spaces xs))
  | inr e ↦ rw e refl
]

-- ---- the cell

-- what follows a name is the rest of a cell, and more
abbrev IsCut : List ℕ → List ℕ → Cut → Type 0
IsCut text name c = (c.name ≡ name) × (text ≡ part_text c.part ++ c.after) × IsPart c.part

key_shown : (name key after : List ℕ) (c : Cut) → list_all is_word_byte key ≡ true → behind_key name key after ≡ Some c → IsCut (91 ∷ (key ++ 93 ∷ after)) name c
key_shown name [] after c word h = absurd (none-some c h)
key_shown name (k ∷ key) after c word h =
    let text = ap (λ (l : List ℕ). 91 ∷ l) (sym (append_assoc (k ∷ key) (93 ∷ []) after)) in
    subst (IsCut (91 ∷ ((k ∷ key) ++ 93 ∷ after)) name) (same_Some (record { name = name; part = at (k ∷ key); after = after }) c h) (refl, text, word)

dot_shown : (name key bytes : List ℕ) (c : Cut) → list_all is_word_byte key ≡ true → behind_dot name key bytes ≡ Some c → IsCut (91 ∷ (key ++ 46 ∷ bytes)) name c
dot_shown name [] bytes c word h = absurd (none-some c h)
dot_shown name (k ∷ key) [] c word h = absurd (none-some c h)
dot_shown name (k ∷ key) (b ∷ []) c word h = absurd (none-some c h)
dot_shown name (k ∷ key) (b ∷ d ∷ after) c word h = elim (cases_Bool (b == 46 && d == 93)) [
  | inl e ↦
      let both = and_parts (b == 46) (d == 93) e in
      let text = ap (λ (l : List ℕ). 91 ∷ l) (sym (append_assoc (k ∷ key) (46 ∷ 46 ∷ 93 ∷ []) after)) in
      rw (same_byte b 46 both.0, same_byte d 93 both.1) (subst (IsCut (91 ∷ ((k ∷ key) ++ 46 ∷ 46 ∷ 93 ∷ after)) name) (same_Some (record { name = name; part = from (k ∷ key); after = after }) c (rw e at h)) (refl, text, word))
  | inr e ↦ absurd (none-some c (rw e at h))
]

star_shown : (name key bytes : List ℕ) (c : Cut) → behind_star name key bytes ≡ Some c → IsCut (91 ∷ (key ++ 42 ∷ bytes)) name c
star_shown name (k ∷ key) bytes c h = absurd (none-some c h)
star_shown name [] [] c h = absurd (none-some c h)
star_shown name [] (b ∷ after) c h = elim (cases_Bool (b == 93)) [
  | inl e ↦ rw (same_byte b 93 e) (subst (IsCut (91 ∷ 42 ∷ 93 ∷ after) name) (same_Some (record { name = name; part = rest; after = after }) c (rw e at h)) (refl, refl, tt))
  | inr e ↦ absurd (none-some c (rw e at h))
]

closed_shown : (name key bytes : List ℕ) (c : Cut) → list_all is_word_byte key ≡ true → cut_closing name key bytes ≡ Some c → IsCut (91 ∷ (key ++ bytes)) name c
closed_shown name key [] c word h = absurd (none-some c h)
closed_shown name key (b ∷ bytes) c word h = elim (cases_Bool (b == 93)) [
  | inl e ↦ rw (same_byte b 93 e) (key_shown name key bytes c word (rw e at h))
  | inr e ↦ elim (cases_Bool (b == 46)) [
    | inl f ↦ rw (same_byte b 46 f) (dot_shown name key bytes c word (rw (e, f) at h))
    | inr f ↦ elim (cases_Bool (b == 42)) [
      | inl g ↦ rw (same_byte b 42 g) (star_shown name key bytes c (rw (e, f, g) at h))
      | inr g ↦ absurd (none-some c (rw (e, f, g) at h))
    ]
  ]
]

keyed_shown : (name bytes : List ℕ) (c : Cut) → cut_name name bytes ≡ Some c → IsCut bytes name c
keyed_shown name [] c h = subst (IsCut [] name) (same_Some (record { name = name; part = whole; after = [] }) c h) (refl, refl, tt)
keyed_shown name (b ∷ bytes) c h = elim (cases_Bool (b == 91)) [
  | inl e ↦
      let key = take (prefix_len is_word_byte bytes) bytes in
      let more = drop (prefix_len is_word_byte bytes) bytes in
      let shown = closed_shown name key more c (take_passes is_word_byte bytes) (rw e at h) in
      rw (same_byte b 91 e) (rw (take-append-drop (prefix_len is_word_byte bytes) bytes) at shown)
  | inr e ↦ subst (IsCut (b ∷ bytes) name) (same_Some (record { name = name; part = whole; after = b ∷ bytes }) c (rw e at h)) (refl, refl, tt)
]

first_word : (b : ℕ) → (is_ascii_alphabetic b || b == 95) ≡ true → is_word_byte b ≡ true
first_word b h = grind (arith, nat_tests, h)

begins_taken : (line : List ℕ) → begins_name line ≡ true → begins_name (take (prefix_len is_word_byte line) line) ≡ true
begins_taken [] h = h
begins_taken (b ∷ line) h = let n : 1 + prefix_len is_word_byte line ≡ suc (prefix_len is_word_byte line) = omega arith in rw (first_word b h, n) h

-- a line is a cell, and more
abbrev IsCellAnd : List ℕ → Cut → Type 0
IsCellAnd line c = (line ≡ c.name ++ (part_text c.part ++ c.after)) × (is_name c.name ≡ true) × IsPart c.part

cut_shown : (line : List ℕ) (c : Cut) → cut line ≡ Some c → IsCellAnd line c
cut_shown line c h = elim (cases_Bool (begins_name line)) [
  | inr e ↦ absurd (none-some c (rw e at h))
  | inl e ↦
      let name = take (prefix_len is_word_byte line) line in
      let more = drop (prefix_len is_word_byte line) line in
      elim (cases_Bool (is_mark name)) [
        | inl f ↦ absurd (none-some c (rw (e, f) at h))
        | inr f ↦
            let shown = keyed_shown name more c (rw (e, f) at h) in
            let is : is_name name ≡ true = rw (begins_taken line e, take_passes is_word_byte line, f) refl in
            let all : line ≡ name ++ more = sym (take-append-drop (prefix_len is_word_byte line) line) in
            (rw shown.0 (all ∙ ap (λ (l : List ℕ). name ++ l) shown.1), rw shown.0 is, shown.2)
      ]
]

-- ---- the value

dots_shown : (xs : List ℕ) → begins_dots xs ≡ true → xs ≡ 46 ∷ 46 ∷ drop 2 xs
dots_shown [] h = absurd (let bad : false ≡ true = h in cc)
dots_shown (a ∷ []) h = absurd (let bad : false ≡ true = h in cc)
dots_shown (a ∷ b ∷ xs) h =
    let both = and_parts (a == 46) (b == 46) h in
    rw (same_byte a 46 both.0, same_byte b 46 both.1) refl

drop_past : (n : ℕ) (xs : List ℕ) → drop (n + 2) xs ≡ drop 2 (drop n xs)
drop_past zero xs = refl
drop_past (suc n) [] = let e : suc n + 2 ≡ suc (suc (suc n)) = omega arith in rw e refl
drop_past (suc n) (x ∷ xs) = let e : suc n + 2 ≡ suc (n + 2) = omega arith in rw e (drop_past n xs)

range_of_shown : (text : List ℕ) (given : GivenNumber) (n : ℕ) (x y : Option ℕ) → begins_dots (drop n text) ≡ true → hex_number 16 (take n text) ≡ x → hex_number 16 (drop (n + 2) text) ≡ y
    → range_of x y ≡ Some given → IsValue given text
range_of_shown text given n None y d ex ey h = absurd (none-some given h)
range_of_shown text given n (Some lo) None d ex ey h = absurd (none-some given h)
range_of_shown text given n (Some lo) (Some hi) d ex ey h = elim (cases_Bool (nat_le lo hi)) [
  | inl e ↦
      let le : lo ≤ hi = grind (arith, nat_tests, e) in
      let behind : drop n text ≡ 46 ∷ 46 ∷ drop (n + 2) text = dots_shown (drop n text) d ∙ ap (λ (l : List ℕ). 46 ∷ 46 ∷ l) (sym (drop_past n text)) in
      let all : text ≡ take n text ++ (46 ∷ 46 ∷ drop (n + 2) text) = sym (take-append-drop n text) ∙ ap (λ (l : List ℕ). take n text ++ l) behind in
      subst (λ g. IsValue g text) (same_Some (Range lo hi) given (rw e at h)) (take n text, drop (n + 2) text, all, ex, ey, le)
  | inr e ↦ absurd (none-some given (rw e at h))
]

range_shown : (text : List ℕ) (given : GivenNumber) → range text ≡ Some given → IsValue given text
range_shown text given h = elim (cases_Bool (begins_dots (drop (prefix_len is_no_dot text) text))) [
  | inl e ↦ range_of_shown text given (prefix_len is_no_dot text) (hex_number 16 (take (prefix_len is_no_dot text) text)) (hex_number 16 (drop (prefix_len is_no_dot text + 2) text)) e refl refl (rw e at h)
  | inr e ↦ absurd (none-some given (rw e at h))
]

one_shown : (text : List ℕ) (given : GivenNumber) (n : Option ℕ) → hex_number 16 text ≡ n → one_or n (range text) ≡ Some given → IsValue given text
one_shown text given None e h = range_shown text given h
one_shown text given (Some v) e h = subst (λ g. IsValue g text) (same_Some (One v) given h) e

value_shown : (text : List ℕ) (given : GivenNumber) → value_of text ≡ Some given → IsValue given text
value_shown text given h = elim (cases_Bool (bytes_eq text (codes "any"))) [
  | inl e ↦ subst (λ g. IsValue g text) (same_Some Any given (rw e at h)) (same_text text (codes "any") e)
  | inr e ↦ one_shown text given (hex_number 16 text) refl (rw e at h)
]

counted_shown : (text bytes : List ℕ) (r : Result (List ℕ) FromHexError) → decode_of text ≡ r → counted r ≡ Some bytes → IsRun bytes text
counted_shown text bytes (Err x) e h = absurd (none-some bytes h)
counted_shown text bytes (Ok found) e h = elim (cases_Bool (nat_lt 0 (length found) && nat_le (length found) most_run)) [
  | inl t ↦
      let both = and_parts (nat_lt 0 (length found)) (nat_le (length found) most_run) t in
      let some : 1 ≤ length found = grind (arith, nat_tests, both.0) in
      let few : length found ≤ most_run = grind (arith, nat_tests, both.1) in
      subst (λ (bs : List ℕ). IsRun bs text) (same_Some found bytes (rw t at h)) (e, some, few)
  | inr t ↦ absurd (none-some bytes (rw t at h))
]

run_shown : (text bytes : List ℕ) → run_of text ≡ Some bytes → IsRun bytes text
run_shown text bytes h = counted_shown text bytes (decode_of text) refl h

-- ---- the line

some_of : {A : Type 0} (g : A → Form) (x : Option A) (f : Form) → option_map g x ≡ Some f → (a : A) × (x ≡ Some a) × (g a ≡ f)
some_of g None f h = absurd (none-some f h)
some_of g (Some a) f h = (a, refl, same_Some (g a) f h)

-- a line of this cell and the spaces behind it
abbrev IsLine : List ℕ → List ℕ → CellSuffix → List ℕ → Type 0
IsLine line name part value = (n : ℕ) × (line ≡ name ++ (part_text part ++ (32 ∷ (replicate n 32 ++ value))))

single_shown : (line name : List ℕ) (part : CellSuffix) (value : List ℕ) (f : Form) → IsOnePart part → IsLine line name part value → is_name name ≡ true → option_map (single name part) (value_of value) ≡ Some f → HasForm line f
single_shown line name part value f one is named h =
    let found = some_of (single name part) (value_of value) f h in
    subst (HasForm line) found.2 (value, is, named, one, value_shown value found.0 found.1)

formed_shown : (line name : List ℕ) (part : CellSuffix) (value : List ℕ) (f : Form) → IsPart part → IsLine line name part value → is_name name ≡ true → formed name part value ≡ Some f → HasForm line f
formed_shown line name whole value f p is named h = single_shown line name whole value f tt is named h
formed_shown line name rest value f p is named h = single_shown line name rest value f tt is named h
formed_shown line name (at key) value f p is named h = single_shown line name (at key) value f p is named h
formed_shown line name (from key) value f p is named h =
    let found = some_of (run name key) (run_of value) f h in
    subst (HasForm line) found.2 (value, is, named, p, run_shown value found.0 found.1)

spaces_shown : (after : List ℕ) → nat_lt 0 (prefix_len is_space after) ≡ true → after ≡ 32 ∷ (replicate (prefix_len is_space after - 1) 32 ++ drop (prefix_len is_space after) after)
spaces_shown after h =
    let some : 0 < prefix_len is_space after = grind (arith, nat_tests, h) in
    let one : prefix_len is_space after ≡ suc (prefix_len is_space after - 1) = omega arith in
    let first : take (prefix_len is_space after) after ≡ 32 ∷ replicate (prefix_len is_space after - 1) 32 = take_spaces after ∙ ap (λ n. replicate n 32) one in
    sym (take-append-drop (prefix_len is_space after) after) ∙ ap (λ (l : List ℕ). l ++ drop (prefix_len is_space after) after) first

after_shown : (line : List ℕ) (f : Form) (c : Option Cut) → cut line ≡ c → after_cell c ≡ Some f → HasForm line f
after_shown line f None e h = absurd (none-some f h)
after_shown line f (Some c) e h = elim (cases_Bool (nat_lt 0 (prefix_len is_space c.after))) [
  | inl t ↦
      let cell = cut_shown line c e in
      let is : line ≡ c.name ++ (part_text c.part ++ (32 ∷ (replicate (prefix_len is_space c.after - 1) 32 ++ drop (prefix_len is_space c.after) c.after))) =
      cell.0 ∙ ap (λ (l : List ℕ). c.name ++ (part_text c.part ++ l)) (spaces_shown c.after t) in
      formed_shown line c.name c.part (drop (prefix_len is_space c.after) c.after) f cell.2 (prefix_len is_space c.after - 1, is) cell.1 (rw t at h)
  | inr t ↦ absurd (none-some f (rw t at h))
]

pub shown : (line : List ℕ) (f : Form) → form line ≡ Some f → HasForm line f
shown line f h = after_shown line f (cut line) refl h

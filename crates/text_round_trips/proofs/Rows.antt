-- Rows are read as they are written, but for multiples of 2 ^ 32.
use Rattle.std.proofs.Common.{◌≡◌, ℕ, zero, suc, ◌+◌, ◌<◌, Bool, true, false, List, [], ◌∷◌, ◌++◌, length, take, drop, map, Option, Some, None, option_map, IsTrue, slice_get, codes, ◌⊎◌, refl, sym, ap, subst, ◌∙◌, inl, inr, arith, append_assoc}
use Rattle.std.proofs.lemmas.Bool.{cases_Bool}
use Rattle.std.proofs.lemmas.List.{take_at, take-append-le, take-append-drop}
use Rattle.std.proofs.lemmas.Option.{none-some, same_Some}
use Rattle.domain_affine_element_laws.specs.Membership.{is_member}
use Rattle.domain_affine_element_laws.proofs.Membership.{members_are_told}
use Rattle.text_words.specs.Digits.{number_tells}
use Rattle.text_words.specs.Fronts.{behind_tells}
use Rattle.text_words.specs.Lists.{behind_spaces}
use Rattle.text_words.specs.Options.{followed, mapped}
use Rattle.text_words.specs.Reading.{behind, number_in}
use Rattle.text_words.specs.Words.{number}
use Rattle.text_elements.specs.Rows.{AddsTo, EachAdds, row_line, row_lines}
use Rattle.text_part_readers.specs.Rows.{new_row, next_row, row_said, spaced, spaced_in}
use Rattle.text_part_readers.proofs.RowSteps.{row_length}
use Rattle.text_lines.specs.Lines.{Lines}
use Rattle.text_lines.specs.Outcomes.{all_said}
use Rattle.text_lines.proofs.Steps.{all_keep}
use Rattle.text_round_trips.proofs.SaidLines.{texts_of}

-- ---- the text of a row that was read

-- a number behind a space
spaced_told : (text : List ℕ) (p : ℕ × List ℕ) → spaced text ≡ Some p → codes " " ++ (number 32 p.0 ++ p.1) ≡ text
spaced_told text p e =
    let front = followed (λ f. option_map (λ n. (n, drop 8 f)) (number_in 32 (take 8 f))) (behind (codes " ") text) p e in
    let found = mapped (λ n. (n, drop 8 front.from)) (number_in 32 (take 8 front.from)) p front.gives in
    let digits : number 32 found.from ≡ take 8 front.from = (number_tells 32 (take 8 front.from) found.from found.is).0 in
    let first : found.from ≡ p.0 = ap (λ (q : ℕ × List ℕ). q.0) found.gives in
    let rest : drop 8 front.from ≡ p.1 = ap (λ (q : ℕ × List ℕ). q.1) found.gives in
    ap (λ (t : List ℕ). 32 ∷ (t ++ p.1)) (sym (ap (number 32) first) ∙ digits) ∙ ap (λ (t : List ℕ). 32 ∷ (take 8 front.from ++ t)) (sym rest) ∙ ap (λ (t : List ℕ). 32 ∷ t) (take-append-drop 8 front.from)
    ∙ behind_tells (codes " ") text front.from front.is

spaced_all : (n : ℕ) (text xs : List ℕ) → spaced_in n text ≡ Some xs → behind_spaces (map (number 32) xs) ≡ text
spaced_all zero [] xs e = subst (λ ys. behind_spaces (map (number 32) ys) ≡ []) (same_Some [] xs e) refl
spaced_all zero (b ∷ text) xs e = absurd (none-some xs e)
spaced_all (suc n) text xs e =
    let first = followed (λ p. option_map (λ ys. p.0 ∷ ys) (spaced_in n p.1)) (spaced text) xs e in
    let rest = mapped (λ ys. first.from.0 ∷ ys) (spaced_in n first.from.1) xs first.gives in
    subst (λ ys. behind_spaces (map (number 32) ys) ≡ text) rest.gives
    (ap (λ (t : List ℕ). 32 ∷ (number 32 first.from.0 ++ t)) (spaced_all n first.from.1 rest.from rest.is) ∙ spaced_told text first.from first.is)

row_told : (k : ℕ) (line row : List ℕ) → row_said k line ≡ Some row → row_line row ≡ line ++ 10 ∷ []
row_told k line row e =
    let said = followed (spaced_in (k + 1)) (behind (codes "row") line) row e in
    sym (append_assoc (codes "row") (behind_spaces (map (number 32) row)) (codes "\n"))
    ∙ ap (λ (t : List ℕ). (codes "row" ++ t) ++ 10 ∷ []) (spaced_all (k + 1) said.from row said.gives) ∙ ap (λ (t : List ℕ). t ++ 10 ∷ []) (behind_tells (codes "row") line said.from said.is)

-- a row that was read is new
new_told : (k : ℕ) (given : List (List ℕ)) (found : Option (List ℕ)) (row : List ℕ) → new_row k given found ≡ Some row → (found ≡ Some row) × (is_member k given row ≡ false)
new_told k given None row e = absurd (none-some row e)
new_told k given (Some other) row e = elim (cases_Bool (is_member k given other)) [
  | inl m ↦ absurd (none-some row (rw m at e))
  | inr m ↦ let same = same_Some other row (rw m at e) in (ap Some same, subst (λ r. is_member k given r ≡ false) same m)
]

pub next_told : (k : ℕ) (given : List (List ℕ)) (line row : List ℕ) → next_row k given line ≡ Some row → row_line row ≡ line ++ 10 ∷ []
next_told k given line row e = row_told k line row (new_told k given (row_said k line) row e).0

pub lines_of_rows : (rows : List (List ℕ)) → texts_of row_line rows ≡ row_lines rows
lines_of_rows [] = refl
lines_of_rows (row ∷ rows) = ap (λ (t : List ℕ). row_line row ++ t) (lines_of_rows rows)

-- ---- each row adds to those before it

true_false : (t : Bool) → t ≡ false → IsTrue t → ⊥
true_false t f h = let bad : false ≡ true = sym f ∙ h in cc

next_adds : (k : ℕ) (given : List (List ℕ)) (line row : List ℕ) → next_row k given line ≡ Some row → AddsTo k given row
next_adds k given line row e =
    let told = new_told k given (row_said k line) row e in
    record { numbers = row_length k line row (sym told.0); is_new = λ m. true_false (is_member k given row) told.1 ((members_are_told k given row).1 m) }

-- what is at a place of a list with one more
at_more : (xs : List (List ℕ)) (x y : List ℕ) (i : ℕ) → slice_get (xs ++ x ∷ []) i ≡ Some y → ((i < length xs) × (slice_get xs i ≡ Some y)) ⊎ ((i ≡ length xs) × (x ≡ y))
at_more [] x y zero e = inr (refl, same_Some x y e)
at_more [] x y (suc i) e = absurd (none-some y e)
at_more (z ∷ xs) x y zero e = inl (omega arith, e)
at_more (z ∷ xs) x y (suc i) e = elim (at_more xs x y i e) [
  | inl p ↦ inl (omega (arith, p.0), p.1)
  | inr p ↦ inr (ap suc p.0, p.1)
]

adds_more : (k : ℕ) (given : List (List ℕ)) (row : List ℕ) → EachAdds k given → AddsTo k given row → EachAdds k (given ++ row ∷ [])
adds_more k given row each adds i other at = elim (at_more given row other i at) [
  | inl p ↦ subst (λ before. AddsTo k before other) (sym (take-append-le i given (row ∷ []) (omega (arith, p.0)))) (each i other p.1)
  | inr p ↦ subst (λ before. AddsTo k before other) (sym (ap (λ n. take n (given ++ row ∷ [])) p.0 ∙ take_at given (row ∷ []) (length given) refl)) (subst (λ r. AddsTo k given r) p.1 adds)
]

none_adds : (k : ℕ) → EachAdds k []
none_adds k i row at = absurd (none-some row at)

pub rows_add : (k : ℕ) (ls : Lines) → EachAdds k (all_said (next_row k) [] ls).0
rows_add k ls = all_keep (EachAdds k) (next_row k) (λ given line row each e. adds_more k given row each (next_adds k given line row e)) [] ls (none_adds k)

-- ---- the same, row by row

-- Each of these rows adds to those given and to those before it.
abbrev pub AddBehind : ℕ → List (List ℕ) → List (List ℕ) → Type 0
AddBehind k given [] = Unit {0}
AddBehind k given (row ∷ rows) = AddsTo k given row × AddBehind k (given ++ row ∷ []) rows

at_seam : (given : List (List ℕ)) (row : List ℕ) (rows : List (List ℕ)) → slice_get (given ++ row ∷ rows) (length given) ≡ Some row
at_seam [] row rows = refl
at_seam (g ∷ given) row rows = at_seam given row rows

pub add_behind : (k : ℕ) (given rows : List (List ℕ)) → EachAdds k (given ++ rows) → AddBehind k given rows
add_behind k given [] each = tt
add_behind k given (row ∷ rows) each = (
  subst (λ before. AddsTo k before row) (take_at given (row ∷ rows) (length given) refl) (each (length given) row (at_seam given row rows)),
  add_behind k (given ++ row ∷ []) rows (subst (EachAdds k) (sym (append_assoc given (row ∷ []) rows)) each),
)

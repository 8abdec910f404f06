-- Affine relations are written and read back.
use Rattle.std.proofs.Common.{◌≡◌, ℕ, zero, suc, ◌+◌, ◌<◌, Bool, true, false, List, [], ◌∷◌, ◌++◌, length, take, map, Some, None, IsTrue, slice_get, codes, refl, sym, ap, subst, ◌∙◌, inl, inr, arith, append_assoc, append-nil}
use Rattle.std.proofs.lemmas.Bool.{false_from_ne_true}
use Rattle.std.proofs.lemmas.Bool.Decides.{nat_tests}
use Rattle.std.proofs.lemmas.List.{map-append, take_at, drop_at}
use Rattle.std.proofs.lemmas.Option.{same_Some}
use Rattle.std.specs.Fmt.{digit_glyph}
use Rattle.std.specs.List.{list_all}
use Rattle.support_modular_rows.specs.Submodule.{Submodule}
use Rattle.domain_affine_element_laws.specs.Elements.{SameMembers}
use Rattle.domain_affine_element_laws.specs.Membership.{is_member}
use Rattle.domain_affine_element_laws.proofs.Membership.{members_are_told}
use Rattle.domain_affine_laws.specs.Calls.{cell_count}
use Rattle.spec_ir.specs.Specification.{Spec}
use Rattle.text_words.specs.Digits.{number_all, number_back, number_length}
use Rattle.text_words.specs.Inside.{both_all}
use Rattle.text_words.specs.Lists.{behind_spaces}
use Rattle.text_words.specs.Reading.{behind, number_in}
use Rattle.text_words.specs.Words.{number}
use Rattle.text_elements.specs.Parts.{AffineText, part_line}
use Rattle.text_elements.specs.Rows.{AreRowsOf, AddsTo, row_line, row_lines}
use Rattle.text_part_readers.specs.Rows.{next_row, row_said, rows_read, spaced, spaced_in}
use Rattle.text_lines.specs.Lines.{Lines, is_inside, lines}
use Rattle.text_lines.specs.Outcomes.{Reading, all_said}
use Rattle.text_lines.proofs.TextOfLines.{line_of_text}
use Rattle.text_element_readers.specs.Reading.{AffineRead, AreRowsRead, affine_read, all_rows}
use Rattle.text_round_trips.specs.Laws.{RelationsRoundTrip}
use Rattle.text_round_trips.specs.RoundTrips.{AreInFront, IsBehindElement}
use Rattle.text_round_trips.proofs.Begin.{begins_with}
use Rattle.text_round_trips.proofs.Fronts.{both_in_front, otherwise}
use Rattle.text_round_trips.proofs.PartLines.{part_begun, part_lines}
use Rattle.text_round_trips.proofs.Reduced.{is_reduced, member_of, reduced, reduced_row, reduced_rows, same_members, same_number}
use Rattle.text_round_trips.proofs.Rows.{AddBehind, add_behind, lines_of_rows, next_told, rows_add}
use Rattle.text_round_trips.proofs.SaidLines.{Begins, all_told, begins, stops, texts_of}

-- ---- what was read is what the lines say

rows_in_front : (k : ℕ) (x : Submodule) (ls : Lines) → x.k ≡ k → SameMembers k x.rows (rows_read k ls).0 → AreInFront (AreRowsOf x) ls (rows_read k ls).1
rows_in_front k x ls e same =
    let so = all_told row_line (next_row k) (λ given line row h. next_told k given line row h) [] ls in
    let rows = (rows_read k ls).0 in
    otherwise (λ t. t ≡ texts_of row_line so.more) (AreRowsOf x) ls (rows_read k ls).1
    (λ t is. record {
      rows = rows;
      generate = subst (λ n. SameMembers n x.rows rows) (sym e) same;
      add = subst (λ n. (i : ℕ) (row : List ℕ) → slice_get rows i ≡ Some row → AddsTo n (take i rows) row) (sym e) (rows_add k ls);
      lines = is ∙ ap (texts_of row_line) (sym so.items) ∙ lines_of_rows rows;
    })
    so.in_front

-- of what was read, the part and its rows
told_of : (k : ℕ) (x : Submodule) (spec : Spec) (ls rest : Lines) (r : Reading (List (List ℕ))) → affine_read k ls ≡ r → AreRowsRead k (Some x) r.0 → rest ≡ r.1 → AreInFront (AffineText spec x) ls rest
told_of k x spec ls rest (None, left) is h e = absurd h
told_of k x spec ls rest (Some rows, left) is h e =
    let begun = part_begun (codes "affine") (λ others. all_rows (rows_read k others)) ls rows left is in
    let same_rows : (rows_read k begun.others).0 ≡ rows = same_Some (rows_read k begun.others).0 rows (ap (λ (q : Reading (List (List ℕ))). q.0) begun.gives) in
    let same_left : (rows_read k begun.others).1 ≡ rest = ap (λ (q : Reading (List (List ℕ))). q.1) begun.gives ∙ sym e in
    let members : SameMembers k x.rows (rows_read k begun.others).0 = subst (λ rs. SameMembers k x.rows rs) (sym same_rows) h.1 in
    let all : AreInFront (AreRowsOf x) begun.others rest = subst (λ (ms : Lines). AreInFront (AreRowsOf x) begun.others ms) same_left (rows_in_front k x begun.others h.0 members) in
    both_in_front (λ t. t ≡ part_line (codes "affine")) (AreRowsOf x) (AffineText spec x) ls begun.others rest
    (λ a b f s. record { lines = b; rows = s; part = ap (λ (t : List ℕ). t ++ b) f }) begun.in_front all

-- ---- what is written is read

number_inside : (n : ℕ) → IsTrue (list_all is_inside (number 32 n))
number_inside n = number_all is_inside glyph_inside 32 n
  where
    glyph_inside : (d : ℕ) → d < 16 → is_inside (digit_glyph false d) ≡ true
    glyph_inside d h = grind (arith, nat_tests, h)

numbers_inside : (xs : List ℕ) → IsTrue (list_all is_inside (behind_spaces (map (number 32) xs)))
numbers_inside [] = refl
numbers_inside (x ∷ xs) = both_all is_inside (number 32 x) (behind_spaces (map (number 32) xs)) (number_inside x) (numbers_inside xs)

-- a number behind a space is read modulo 2 ^ 32
spaced_back : (n : ℕ) (rest : List ℕ) → spaced (codes " " ++ (number 32 n ++ rest)) ≡ Some (reduced n, rest)
spaced_back n rest =
    let digits : number_in 32 (number 32 n) ≡ Some (reduced n) = ap (number_in 32) (sym (same_number n)) ∙ number_back 32 (reduced n) (omega arith, omega arith) (is_reduced n) in
    let long : length (number 32 n) ≡ 8 = number_length 32 n in
    rw (take_at (number 32 n) rest 8 long, drop_at (number 32 n) rest 8 long, digits) refl

spaced_all : (n : ℕ) (xs : List ℕ) → length xs ≡ n → spaced_in n (behind_spaces (map (number 32) xs)) ≡ Some (reduced_row xs)
spaced_all zero [] e = refl
spaced_all zero (x ∷ xs) e = absurd (omega (arith, e))
spaced_all (suc n) [] e = absurd (omega (arith, e))
spaced_all (suc n) (x ∷ xs) e = rw (spaced_back x (behind_spaces (map (number 32) xs)), spaced_all n xs (omega (arith, e))) refl

-- a row that was written, without the end of its line
row_text : List ℕ → List ℕ
row_text row = codes "row" ++ behind_spaces (map (number 32) row)

row_back : (k : ℕ) (row : List ℕ) → length row ≡ k + 1 → row_said k (row_text row) ≡ Some (reduced_row row)
unfolding row_text
row_back k row e = rw (spaced_all (k + 1) row e) refl

row_end : (row : List ℕ) (more : List ℕ) → lines (row_line row ++ more) ≡ Some (row_text row) ∷ lines more
unfolding row_text
row_end row more =
    let text = behind_spaces (map (number 32) row) in
    let seen : row_line row ++ more ≡ (codes "row" ++ text) ++ 10 ∷ more = ap (λ (t : List ℕ). codes "row" ++ t) (append_assoc text (codes "\n") more) in
    ap lines seen ∙ line_of_text (codes "row" ++ text) more (numbers_inside row)

-- a row that adds to others adds to them where all are reduced
still_new : (k : ℕ) (given : List (List ℕ)) (row : List ℕ) → AddsTo k given row → is_member k (reduced_rows given) (reduced_row row) ≡ false
still_new k given row adds =
    false_from_ne_true (is_member k (reduced_rows given) (reduced_row row))
    (λ h. adds.is_new (member_of k given row ((same_members k given (reduced_row row)).1 ((members_are_told k (reduced_rows given) (reduced_row row)).0 h))))

next_back : (k : ℕ) (given : List (List ℕ)) (row : List ℕ) → AddsTo k given row → next_row k (reduced_rows given) (row_text row) ≡ Some (reduced_row row)
next_back k given row adds = rw (row_back k row adds.numbers, still_new k given row adds) refl

-- no row begins as what stands behind an element does
abbrev IsNoRow : ℕ → List (List ℕ) → List ℕ → Type 0
IsNoRow k given word = IsTrue (list_all is_inside word) × ((tail : List ℕ) → next_row k given (word ++ tail) ≡ None)

no_rows : (k : ℕ) (given : List (List ℕ)) (more : List ℕ) → IsBehindElement more → all_said (next_row k) given (lines more) ≡ (given, lines more)
no_rows k given more (inl e) = rw e refl
no_rows k given more (inr h) =
    let word = begins_with (IsNoRow k given) more ((refl, λ tail. refl), ((refl, λ tail. refl), ((refl, λ tail. refl), ((refl, λ tail. refl), ((refl, λ tail. refl), ((refl, λ tail. refl), ((refl, λ tail. refl), tt))))))) h in
    stops (next_row k) given word.word (lines more) word.has.1 (subst (λ (t : List ℕ). Begins word.word (lines t)) (sym word.is) (begins word.word word.rest word.has.0))

rows_back : (k : ℕ) (given rows : List (List ℕ)) (more : List ℕ) → AddBehind k given rows → IsBehindElement more
    → all_said (next_row k) (reduced_rows given) (lines (row_lines rows ++ more)) ≡ (reduced_rows (given ++ rows), lines more)
rows_back k given [] more add behind =
    no_rows k (reduced_rows given) more behind ∙ ap (λ (rs : List (List ℕ)). (reduced_rows rs, lines more)) (sym (append-nil given))
rows_back k given (row ∷ rows) more add behind =
    let others = row_lines rows ++ more in
    let first : lines (row_lines (row ∷ rows) ++ more) ≡ Some (row_text row) ∷ lines others = ap lines (append_assoc (row_line row) (row_lines rows) more) ∙ row_end row others in
    let grown : reduced_rows given ++ reduced_row row ∷ [] ≡ reduced_rows (given ++ row ∷ []) = sym (map-append reduced_row given (row ∷ [])) in
    rw (first, next_back k given row add.0)
    (ap (λ (gs : List (List ℕ)). all_said (next_row k) gs (lines others)) grown
    ∙ rows_back k (given ++ row ∷ []) rows more add.1 behind ∙ ap (λ (rs : List (List ℕ)). (reduced_rows rs, lines more)) (append_assoc given (row ∷ []) rows))

back_of : (k : ℕ) (spec : Spec) (code : ℕ → Bool) (x : Submodule) (text more : List ℕ) → x.k ≡ k → AffineText spec x text → IsBehindElement more → AffineRead k spec code (lines (text ++ more)) (Some x) (lines more)
back_of k spec code x text more e is behind =
    let rows = is.rows.rows in
    let add : AddBehind k [] rows = add_behind k [] rows (subst (λ n. (i : ℕ) (row : List ℕ) → slice_get rows i ≡ Some row → AddsTo n (take i rows) row) e is.rows.add) in
    let all : text ++ more ≡ (part_line (codes "affine") ++ row_lines rows) ++ more = ap (λ (t : List ℕ). t ++ more) (is.part ∙ ap (λ (t : List ℕ). part_line (codes "affine") ++ t) is.rows.lines) in
    let read : affine_read k (lines (text ++ more)) ≡ (Some (reduced_rows rows), lines more) =
    ap (λ (t : List ℕ). affine_read k (lines t)) all ∙ part_lines (codes "affine") (λ others. all_rows (rows_read k others)) (row_lines rows) more refl
    ∙ ap all_rows (rows_back k [] rows more add behind) in
    let generate : SameMembers k x.rows rows = subst (λ n. SameMembers n x.rows rows) e is.rows.generate in
    rw read ((e, λ v. ((λ m. (same_members k rows v).0 ((generate v).0 m)), (λ m. (generate v).1 ((same_members k rows v).1 m)))), refl)

pub relations_round_trip : RelationsRoundTrip
relations_round_trip t spec = record {
  told = λ code ls rest x h. told_of (cell_count t) x spec ls rest (affine_read (cell_count t) ls) refl h.0 h.1;
  printable = λ code ls rest x h. tt;
  back = λ code x text more fits fair is behind. back_of (cell_count t) spec code x text more fits is behind;
}

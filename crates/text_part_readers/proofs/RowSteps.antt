-- Rows, one further.
use Rattle.std.proofs.Common.{◌≡◌, ℕ, suc, zero, ◌+◌, ◌-◌, ◌<◌, ◌≤◌, ◌==◌, Bool, true, false, List, [], ◌∷◌, ◌++◌, length, drop, take, map, Option, Some, None, option_map, refl, sym, ap, subst, ◌∙◌, arith, append_assoc, ◌↔◌}
use Rattle.std.specs.Prelude.{codes, IsTrue}
use Rattle.std.proofs.lemmas.Bool.Decides.{nat_tests}
use Rattle.std.proofs.lemmas.List.{take_all}
use Rattle.std.proofs.lemmas.Option.{none-some, same_Some}
use Rattle.std.specs.Option.{option_and_then}
use Rattle.support_modular_rows.specs.Laws.{IsWithin}
use Rattle.support_modular_rows.specs.Submodule.{IsMember}
use Rattle.support_modular_rows.proofs.Closure.{append_joins}
use Rattle.domain_affine_element_laws.specs.Elements.{SameMembers}
use Rattle.domain_affine_element_laws.specs.Membership.{is_member}
use Rattle.domain_affine_element_laws.proofs.Membership.{each_within, members_are_told}
use Rattle.domain_affine_elements.proofs.Adding.{adds_one}
use Rattle.text_words.specs.Reading.{behind}
use Rattle.text_lines.specs.Lines.{Lines, first_line}
use Rattle.text_lines.specs.Outcomes.{Reading, all_said, one}
use Rattle.text_lines.proofs.Steps.{ends_there, goes_on, one_taken}
use Rattle.text_part_readers.specs.Rows.{IsRowRead, new_row, next_row, row_said, rows_read, spaced, spaced_in}

-- ---- numbers

-- numbers in front of others
abbrev pub behind_numbers : List ℕ → Option (List ℕ) → Option (List ℕ)
behind_numbers xs numbers = option_map (λ ys. xs ++ ys) numbers

one_behind : (xs : List ℕ) (x : ℕ) (numbers : Option (List ℕ)) → behind_numbers xs (option_map (λ ys. x ∷ ys) numbers) ≡ behind_numbers (xs ++ x ∷ []) numbers
one_behind xs x None = refl
one_behind xs x (Some ys) = ap (λ (zs : List ℕ). Some zs) (sym (append_assoc xs (x ∷ []) ys))

nothing_behind : (numbers : Option (List ℕ)) → numbers ≡ behind_numbers [] numbers
nothing_behind None = refl
nothing_behind (Some xs) = refl

-- a number was read
pub number_more : (xs : List ℕ) (n x : ℕ) (text rest : List ℕ) → Some (x, rest) ≡ spaced text → behind_numbers xs (spaced_in (suc n) text) ≡ behind_numbers (xs ++ x ∷ []) (spaced_in n rest)
number_more xs n x text rest is = rw (← is) (one_behind xs x (spaced_in n rest))

pub number_faulty : (xs : List ℕ) (n : ℕ) (text : List ℕ) → None ≡ spaced text → behind_numbers xs (spaced_in (suc n) text) ≡ None
number_faulty xs n text is = rw (← is) refl

-- behind `row` come the numbers
pub row_begins : (k : ℕ) (line text row : List ℕ) → row ≡ [] → Some text ≡ behind (codes "row") line → row_said k line ≡ behind_numbers row (spaced_in (k + 1 - 0) text)
row_begins k line text row none is = let whole : k + 1 - 0 ≡ k + 1 = omega arith in rw (← is, none, whole) (nothing_behind (spaced_in (k + 1) text))

less : (k i : ℕ) → i < k + 1 → k + 1 - i ≡ suc (k + 1 - (i + 1))
less k i h = omega (arith, h)

pub row_goes_on : (k i x : ℕ) (row more text rest : List ℕ) (whole : Option (List ℕ)) → i < k + 1 → Some (x, rest) ≡ spaced text → more ≡ row ++ x ∷ []
    → whole ≡ behind_numbers row (spaced_in (k + 1 - i) text) → whole ≡ behind_numbers more (spaced_in (k + 1 - (i + 1)) rest)
row_goes_on k i x row more text rest whole within is longer so_far =
    let step = rw (less k i within) at so_far in
    rw longer (step ∙ number_more row (k + 1 - (i + 1)) x text rest is)

pub row_stops : (k i : ℕ) (row text : List ℕ) (whole : Option (List ℕ)) → i < k + 1 → None ≡ spaced text → whole ≡ behind_numbers row (spaced_in (k + 1 - i) text) → None ≡ whole
row_stops k i row text whole within is so_far =
    let step = rw (less k i within) at so_far in
    sym (step ∙ number_faulty row (k + 1 - (i + 1)) text is)

-- how many numbers a row has
one_longer : (n x : ℕ) (xs : List ℕ) (numbers : Option (List ℕ)) → ((ys : List ℕ) → numbers ≡ Some ys → length ys ≡ n) → option_map (λ ys. x ∷ ys) numbers ≡ Some xs → length xs ≡ suc n
one_longer n x xs None count h = absurd (none-some xs h)
one_longer n x xs (Some ys) count h = ap (λ (zs : List ℕ). length zs) (sym (same_Some (x ∷ ys) xs h)) ∙ ap suc (count ys refl)

mutual_count : (n : ℕ) (found : Option (ℕ × List ℕ)) (xs : List ℕ) → ((rest ys : List ℕ) → spaced_in n rest ≡ Some ys → length ys ≡ n)
    → option_and_then (λ p. option_map (λ ys. p.0 ∷ ys) (spaced_in n p.1)) found ≡ Some xs → length xs ≡ suc n
mutual_count n None xs count h = absurd (none-some xs h)
mutual_count n (Some p) xs count h = one_longer n p.0 xs (spaced_in n p.1) (count p.1) h

spaced_count : (n : ℕ) (text xs : List ℕ) → spaced_in n text ≡ Some xs → length xs ≡ n
spaced_count zero [] xs h = ap (λ (ys : List ℕ). length ys) (sym (same_Some [] xs h))
spaced_count zero (b ∷ text) xs h = absurd (none-some xs h)
spaced_count (suc n) text xs h = mutual_count n (spaced text) xs (spaced_count n) h

row_count : (k : ℕ) (found : Option (List ℕ)) (xs : List ℕ) → option_and_then (spaced_in (k + 1)) found ≡ Some xs → length xs ≡ k + 1
row_count k None xs h = absurd (none-some xs h)
row_count k (Some text) xs h = spaced_count (k + 1) text xs h

pub row_length : (k : ℕ) (line row : List ℕ) → Some row ≡ row_said k line → length row ≡ k + 1
row_length k line row h = row_count k (behind (codes "row") line) row (sym h)

none_in : (front : List ℕ) → length front < 8 → (length front == 8) ≡ false
none_in front few = grind (arith, nat_tests, few)

-- a text that is too short has no number of 32 bits
pub short_front : (text front : List ℕ) → behind (codes " ") text ≡ Some front → length front < 8 → None ≡ spaced text
short_front text front is few =
    let all : take 8 front ≡ front = take_all 8 front (omega (arith, few)) in
    rw (is, all, none_in front few) refl

-- ---- rows

-- Rows that generate those read so far, and the lines that are left.
pub record RowsSo (k : ℕ) (all now : Lines) (rows : List (List ℕ)) : Type 0 where
  pub given : List (List ℕ)
  pub same : SameMembers k rows given
  pub so_far : all_said (next_row k) [] all ≡ all_said (next_row k) given now

within : (k : ℕ) (rows : List (List ℕ)) (row : List ℕ) → IsMember k rows row → IsWithin k (row ∷ rows) rows
within k rows row known = (append_joins k (row ∷ []) rows).least rows (each_within k rows (row ∷ []) (known, tt)) (λ x m. m)

is_false : (t : Bool) → (IsTrue t → ⊥) → t ≡ false
is_false true h = absurd (h refl)
is_false false h = refl

-- a row that is new was added
pub row_taken : (j k : ℕ) → j ≡ k → (rows more given : List (List ℕ)) (ls others : Lines) (line row : List ℕ) → Some (line, others) ≡ first_line ls → Some row ≡ row_said k line
    → (IsMember j rows row → ⊥) → ((x : List ℕ) → IsMember j more x ↔ IsMember j (row ∷ rows) x) → SameMembers k rows given → IsRowRead k given ls true more others
row_taken j k e rows more given ls others line row first said new members same =
    let grown : (x : List ℕ) → IsMember k more x ↔ IsMember k (row ∷ rows) x = subst (λ n. (x : List ℕ) → IsMember n more x ↔ IsMember n (row ∷ rows) x) e members in
    let other : IsMember k rows row → ⊥ = subst (λ n. IsMember n rows row → ⊥) e new in
    let test : is_member k given row ≡ false = is_false (is_member k given row) (λ h. other ((same row).1 ((members_are_told k given row).0 h))) in
    (row, rw (← first, ← said, test) refl, adds_one k rows given more row same grown)

-- a row that was generated before is not
pub row_known : (j k : ℕ) → j ≡ k → (rows more given : List (List ℕ)) (ls others : Lines) (line row : List ℕ) → Some (line, others) ≡ first_line ls → Some row ≡ row_said k line
    → IsMember j rows row → ((x : List ℕ) → IsMember j more x ↔ IsMember j (row ∷ rows) x) → SameMembers k rows given → IsRowRead k given ls false more ls
row_known j k e rows more given ls others line row first said old members same =
    let grown : (x : List ℕ) → IsMember k more x ↔ IsMember k (row ∷ rows) x = subst (λ n. (x : List ℕ) → IsMember n more x ↔ IsMember n (row ∷ rows) x) e members in
    let known : IsMember k rows row = subst (λ n. IsMember n rows row) e old in
    let test : is_member k given row ≡ true = (members_are_told k given row).1 ((same row).0 known) in
    (rw (← first, ← said, test) refl, λ x. ((λ m. (same x).0 (within k rows row known x ((grown x).0 m))), (λ m. (grown x).1 ((append_joins k (row ∷ []) rows).right x ((same x).1 m)))))

pub no_rows : (k : ℕ) (all : Lines) → RowsSo k all all []
no_rows k all = record { given = []; same = λ x. ((λ m. m), (λ m. m)); so_far = refl }

-- one more row was read
pub rows_more : (k : ℕ) (all now others : Lines) (rows more : List (List ℕ)) → RowsSo k all now rows
    → ((given : List (List ℕ)) → SameMembers k rows given → IsRowRead k given now true more others) → RowsSo k all others more
rows_more k all now others rows more so read =
    let (row, is, same) = read so.given so.same in
    record { given = so.given ++ row ∷ []; same = same; so_far = so.so_far ∙ goes_on (next_row k) so.given now others row is }

-- one line less is left
pub rows_fewer : (k : ℕ) (all now others : Lines) (rows more : List (List ℕ)) → RowsSo k all now rows
    → ((given : List (List ℕ)) → SameMembers k rows given → IsRowRead k given now true more others) → length others < length now
rows_fewer k all now others rows more so read =
    let (row, is, same) = read so.given so.same in
    let (line, first, found) = one_taken (next_row k so.given) now others row is in
    rw first (omega arith)

-- there was no further row
pub rows_done : (k : ℕ) (all now others : Lines) (rows more : List (List ℕ)) → RowsSo k all now rows
    → ((given : List (List ℕ)) → SameMembers k rows given → IsRowRead k given now false more others) → SameMembers k more (rows_read k all).0 × (others ≡ (rows_read k all).1)
rows_done k all now others rows more so read =
    let (is, same) = read so.given so.same in
    let end : all_said (next_row k) [] all ≡ (so.given, others) = so.so_far ∙ ends_there (next_row k) so.given now others is in
    rw end (same, refl)

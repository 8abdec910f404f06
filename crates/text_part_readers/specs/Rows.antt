-- What is read of the lines of an element of affine relations.
use Rattle.std.specs.Prelude.{◌≡◌, ℕ, Bool, true, false, zero, suc, ◌+◌, List, [], ◌∷◌, ◌++◌, take, drop, Option, Some, None, option_map, codes, if◌then◌else◌}
use Rattle.std.specs.Option.{option_and_then}
use Rattle.domain_affine_element_laws.specs.Elements.{SameMembers}
use Rattle.domain_affine_element_laws.specs.Membership.{is_member}
use Rattle.text_words.specs.Reading.{behind, number_in}
use Rattle.text_lines.specs.Lines.{Lines}
use Rattle.text_lines.specs.Outcomes.{all_said, one}

-- a number of 32 bits behind a space, and what stands behind it
abbrev pub spaced : List ℕ → Option (ℕ × List ℕ)
spaced text = option_and_then (λ front. option_map (λ n. (n, drop 8 front)) (number_in 32 (take 8 front))) (behind (codes " ") text)

-- n numbers, each behind a space, and nothing else
abbrev pub spaced_in : ℕ → List ℕ → Option (List ℕ)
spaced_in zero [] = Some []
spaced_in zero (b ∷ text) = None
spaced_in (suc n) text = option_and_then (λ p. option_map (λ xs. p.0 ∷ xs) (spaced_in n p.1)) (spaced text)

-- `row N N ..`: k + 1 numbers
abbrev pub row_said : ℕ → List ℕ → Option (List ℕ)
row_said k line = option_and_then (spaced_in (k + 1)) (behind (codes "row") line)

-- a row that those before it do not generate
abbrev pub new_row : ℕ → List (List ℕ) → Option (List ℕ) → Option (List ℕ)
new_row k given None = None
new_row k given (Some row) = if is_member k given row then None else Some row

-- a line of a row that adds to those given
abbrev pub next_row : ℕ → List (List ℕ) → List ℕ → Option (List ℕ)
next_row k given line = new_row k given (row_said k line)

-- the rows of an element over k cells, each of which adds to those before it
abbrev pub rows_read : ℕ → Lines → List (List ℕ) × Lines
rows_read k ls = all_said (next_row k) [] ls

-- What reading a row makes of rows that generate those given: one more, which is new, or the same, and no line is taken.
abbrev pub IsRowRead : ℕ → List (List ℕ) → Lines → Bool → List (List ℕ) → Lines → Type 0
IsRowRead k given ls true rows others = (row : List ℕ) × (one (next_row k given) ls ≡ (Some row, others)) × SameMembers k rows (given ++ row ∷ [])
IsRowRead k given ls false rows others = (one (next_row k given) ls ≡ (None, others)) × SameMembers k rows given

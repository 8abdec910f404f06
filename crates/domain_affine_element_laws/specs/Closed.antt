-- The element behind an instruction: the values of the words' forms over the element before it, and any number for each
-- cell whose word is any.
use Rattle.std.specs.Prelude.{ℕ, zero, suc, ◌+◌, List, ◌∷◌, Option, Some, None, map, slice_get, slice_index, unwrap_or}
use Rattle.support_modular_rows.specs.Submodule.{Submodule, dot, unit_row}
use Rattle.domain_affine_base.specs.Exact.{form_of}
use Rattle.domain_affine_base.specs.declared.word.Word.{Word}

-- the value of a form, if any, over a row
abbrev pub value_over : List ℕ → Option (List ℕ) → ℕ
value_over r None = 0
value_over r (Some f) = dot f r

-- the first number of a row, and the values over it
abbrev pub image_row : List (Option (List ℕ)) → List ℕ → List ℕ
image_row forms r = slice_index r 0 ∷ map (value_over r) forms

-- with the unit vector of a cell that has no form
abbrev pub with_free : ℕ → ℕ → Option (List ℕ) → List (List ℕ) → List (List ℕ)
with_free n cell None rows = unit_row n (cell + 1) ∷ rows
with_free n cell (Some f) rows = rows

-- with those of the first cells
abbrev pub with_all_free : ℕ → List (Option (List ℕ)) → ℕ → List (List ℕ) → List (List ℕ)
with_all_free n forms zero rows = rows
with_all_free n forms (suc cells) rows = with_free n cells (unwrap_or (slice_get forms cells) None) (with_all_free n forms cells rows)

abbrev pub closed_rows : ℕ → List (Option (List ℕ)) → List (List ℕ) → List (List ℕ)
closed_rows k forms rows = with_all_free (k + 1) forms k (map (image_row forms) rows)

-- the words of the k tracked cells
abbrev pub closed_of : ℕ → List Word → Submodule → Submodule
closed_of k words x = record { k = k; rows = closed_rows k (map form_of words) x.rows }

-- Rows, one further.
use Rattle.std.proofs.Common.{◌≡◌, ◌<◌, ◌≤◌, ℕ, ◌+◌, List, ◌++◌, Some, length, drop, take, slice_get, refl, sym, ap, subst, ◌∙◌, inl, inr, arith, append-nil, append_assoc}
use Rattle.std.proofs.Math.ListN.{drop_of_length-le}
use Rattle.std.proofs.lemmas.Bool.{cases_lt}
use Rattle.std.proofs.lemmas.List.{drop_more}
use Rattle.std.proofs.lemmas.Option.{get_or_from_slice_get, slice_get_within}
use Rattle.support_modular_rows.specs.Submodule.{Submodule}
use Rattle.text_elements.specs.Rows.{AddsTo, AreRowsOf, row_line, row_lines}

-- the line of a row comes before those behind it
pub rows_more : (rows : List (List ℕ)) (i : ℕ) (row : List ℕ) → slice_get rows i ≡ Some row → row_lines (drop i rows) ≡ row_line row ++ row_lines (drop (i + 1) rows)
rows_more rows i row here =
    let item = get_or_from_slice_get rows i row row here in
    let next = drop_more rows i row (slice_get_within rows i row here) in
    rw (next, item) refl

-- a row was appended
pub row_out : (rows : List (List ℕ)) (i : ℕ) (row all out new : List ℕ) → slice_get rows i ≡ Some row → all ≡ out ++ row_lines (drop i rows) → new ≡ out ++ row_line row → all ≡ new ++ row_lines (drop (i + 1) rows)
row_out rows i row all out new here so_far put =
    let rest = row_lines (drop (i + 1) rows) in
    so_far ∙ ap (λ (xs : List ℕ). out ++ xs) (rows_more rows i row here) ∙ sym (ap (λ (xs : List ℕ). xs ++ rest) put ∙ append_assoc out (row_line row) rest)

-- The rows before number i add to those before them.
abbrev pub AddBelow : ℕ → List (List ℕ) → ℕ → Type 0
AddBelow k rows i = (j : ℕ) (row : List ℕ) → j < i → slice_get rows j ≡ Some row → AddsTo k (take j rows) row

same_row : (x y : List ℕ) → Some x ≡ Some y → x ≡ y
same_row x y same = cc

-- and one more does
pub adds_more : (k : ℕ) (rows : List (List ℕ)) (i : ℕ) (row : List ℕ) → AddBelow k rows i → slice_get rows i ≡ Some row → AddsTo k (take i rows) row → AddBelow k rows (i + 1)
adds_more k rows i row below here adds j other less at = elim (cases_lt j i) [
  | inl lt ↦ below j other lt at
  | inr ge ↦
      let same : i ≡ j = omega arith in
      let is : row ≡ other = same_row row other (sym here ∙ subst (λ n. slice_get rows n ≡ Some other) (sym same) at) in
      subst (λ n. AddsTo k (take n rows) other) same (subst (λ r. AddsTo k (take i rows) r) is adds)
]

-- all rows are out
pub rows_done : (x : Submodule) (i : ℕ) (old out : List ℕ) → length x.rows ≤ i → AddBelow x.k x.rows i → old ++ row_lines x.rows ≡ out ++ row_lines (drop i x.rows) → AreRowsOf x (row_lines x.rows) × (out ≡ old ++ row_lines x.rows)
rows_done x i old out end below lines =
    let none = drop_of_length-le x.rows end in
    let h = rw none at lines in
    (record { rows = x.rows; generate = λ v. ((λ m. m), (λ m. m)); add = λ j row at. below j row (omega (arith, end, slice_get_within x.rows j row at)) at; lines = refl }, sym (h ∙ append-nil out))

-- The texts of an element of affine relations.
use Rattle.std.specs.Prelude.{◌≡◌, ℕ, ◌+◌, List, [], ◌∷◌, ◌++◌, Some, codes, length, map, slice_get, take}
use Rattle.support_modular_rows.specs.Submodule.{IsMember, Submodule}
use Rattle.domain_affine_element_laws.specs.Elements.{SameMembers}
use Rattle.text_words.specs.Lists.{behind_spaces}
use Rattle.text_words.specs.Words.{number}

-- a row: its numbers, each behind a space
abbrev pub row_line : List ℕ → List ℕ
row_line row = codes "row" ++ (behind_spaces (map (number 32) row) ++ codes "\n")

abbrev pub row_lines : List (List ℕ) → List ℕ
row_lines [] = []
row_lines (row ∷ rows) = row_line row ++ row_lines rows

-- A row of k + 1 numbers that those before it do not generate.
pub record AddsTo (k : ℕ) (before : List (List ℕ)) (row : List ℕ) : Type 0 where
  pub numbers : length row ≡ k + 1
  pub is_new : IsMember k before row → ⊥

-- Each row adds to those before it.
abbrev pub EachAdds : ℕ → List (List ℕ) → Type 0
EachAdds k rows = (i : ℕ) (row : List ℕ) → slice_get rows i ≡ Some row → AddsTo k (take i rows) row

-- The text has the lines of rows that generate the submodule, each of which adds to those before it.
pub record AreRowsOf (x : Submodule) (text : List ℕ) : Type 0 where
  pub rows : List (List ℕ)
  pub generate : SameMembers x.k x.rows rows
  pub add : EachAdds x.k rows
  pub lines : text ≡ row_lines rows

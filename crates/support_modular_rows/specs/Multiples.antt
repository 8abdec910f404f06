-- Cells whose number is a multiple of the first number.
use Rattle.std.specs.Prelude.{◌≡◌, ◌≢◌, ℕ, ◌+◌, ◌*◌, ◌^◌, ◌<◌, ◌≤◌, List, [], length, slice_index, slice_index_or}
use Rattle.support_modular_rows.specs.Submodule.{Congruent, IsMember}

-- in each member the cell's number is c times the first
abbrev pub IsMultiple : ℕ → List (List ℕ) → ℕ → ℕ → Type 0
IsMultiple k rows cell c = (x : List ℕ) → IsMember k rows x → Congruent (slice_index x (cell + 1)) (c * slice_index x 0)

-- c is the least such number
pub record IsLeastMultiple (k : ℕ) (rows : List (List ℕ)) (cell c : ℕ) : Type 0 where
  pub holds : IsMultiple k rows cell c
  pub least : (d : ℕ) → IsMultiple k rows cell d → c ≤ d

-- ---- of the kept rows
-- in each row the column's number is c times the first
abbrev pub AreMultiples : List (List ℕ) → ℕ → ℕ → Type 0
AreMultiples rs column c = (i : ℕ) → i < length rs → Congruent (slice_index (slice_index_or rs i []) column) (c * slice_index (slice_index_or rs i []) 0)

pub record AreLeastMultiples (rs : List (List ℕ)) (column c : ℕ) : Type 0 where
  pub holds : AreMultiples rs column c
  pub least : (d : ℕ) → AreMultiples rs column d → c ≤ d

-- each row but the first is 0 in the column
abbrev pub OthersAreZero : List (List ℕ) → ℕ → Type 0
OthersAreZero rs column = (i : ℕ) → 0 < i → i < length rs → slice_index (slice_index_or rs i []) column ≡ 0

-- one of them is a number below 2 ^ 32 other than 0
abbrev pub IsOther : List (List ℕ) → ℕ → Type 0
IsOther rs column =
    (i : ℕ) × (0 < i) × (i < length rs) × (slice_index (slice_index_or rs i []) column ≢ 0) × (slice_index (slice_index_or rs i []) column < 2 ^ 32)

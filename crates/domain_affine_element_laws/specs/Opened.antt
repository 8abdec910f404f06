-- The word of a tracked cell where an element stands: the least constant that its number is of the first, else the cell
-- itself.
use Rattle.std.specs.Prelude.{ℕ, zero, suc, ◌+◌, ◌*◌, ◌%◌, ◌^◌, Bool, ◌==◌, List, Option, Some, None, slice_index, if◌then◌else◌}
use Rattle.std.specs.List.{list_all}
use Rattle.support_modular_rows.specs.Submodule.{unit_row}
use Rattle.domain_affine_base.specs.declared.word.Word.{Word}
use Rattle.domain_affine_base.specs.declared.word.Word.TheVariants.{Const, Form}

abbrev pub first_of : Option ℕ → Option ℕ → Option ℕ
first_of (Some i) other = Some i
first_of None other = other

-- the least number below n that passes the test
unfoldable pub least_below : ℕ → (ℕ → Bool) → Option ℕ
least_below zero test = None
least_below (suc n) test = first_of (least_below n test) (if test n then Some n else None)

-- in each row the cell's number is c times the first
abbrev pub are_multiples : List (List ℕ) → ℕ → ℕ → Bool
are_multiples rows cell c = list_all (λ r. slice_index r (cell + 1) % 2 ^ 32 == c * slice_index r 0 % 2 ^ 32) rows

abbrev pub constant_or_cell : ℕ → ℕ → Option ℕ → Word
constant_or_cell k cell (Some c) = Const c
constant_or_cell k cell None = Form (unit_row (k + 1) (cell + 1))

abbrev pub opened_cell : ℕ → List (List ℕ) → ℕ → Word
opened_cell k rows cell = constant_or_cell k cell (least_below (2 ^ 32) (are_multiples rows cell))

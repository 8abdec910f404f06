-- The concrete value of an abstract one over single numbers.
use Rattle.std.specs.Prelude.{ℕ, suc, List, map as map_of}
use Rattle.base_trait.specs.declared.uses.Stamp.{Stamp}
use Rattle.abstract_map_laws.specs.declared.cell.AbstractCell.{AbstractCell}
use Rattle.semantics_values.specs.declared.value.Cell.{Cell as ConcreteCell}
use Rattle.semantics_values.specs.Values as v
use Rattle.semantics_values.specs.Values.{Val, Vals}
use Rattle.abstract_value_laws.specs.Abs.{Abs, Cases, Parts, flag, word, made, map, no_case, absent, present, no_part, part}

abbrev pub cell_in : AbstractCell ℕ Stamp → ConcreteCell
cell_in x = record { v = x.word; stamp = x.note }

abbrev pub cells_in : List (ℕ × AbstractCell ℕ Stamp) → List (ℕ × ConcreteCell)
cells_in cells = map_of (λ e. (e.0, cell_in e.1)) cells

abbrev mutual
  -- of a flag whether it may be true, and of constructors the first that is present; a map has the same cells
  pub value_in : Abs ℕ Stamp → Val
  value_in (flag t) = v.flag t.may_true
  value_in (word w x) = v.word w x
  value_in (made t cs) = case_in t 0 cs
  value_in (map m x) = v.map m (cell_in x.rest) (cells_in x.cells)

  -- from constructor k on; where none is present there are no fields
  pub case_in : ℕ → ℕ → Cases ℕ Stamp → Val
  case_in t k no_case = v.made t k v.no_val
  case_in t k (absent cs) = case_in t (suc k) cs
  case_in t k (present xs cs) = v.made t k (values_in xs)

  pub values_in : Parts ℕ Stamp → Vals
  values_in no_part = v.no_val
  values_in (part x xs) = v.val_then (value_in x) (values_in xs)

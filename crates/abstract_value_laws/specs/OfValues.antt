-- The abstract value of a concrete one.
use Rattle.std.specs.Prelude.{ℕ, zero, suc, ◌<◌, ◌^◌, Bool, not, List, [], ◌∷◌, ◌++◌, length, slice_get, map as map_of, ⊤}
use Rattle.word_operations.specs.Width.{IsWidth}
use Rattle.base_trait.specs.Algebra.{Algebra}
use Rattle.base_trait.specs.Lists.{Each, IsAscending}
use Rattle.base_trait.specs.declared.tri.Tri.{Tri}
use Rattle.base_trait.specs.declared.uses.Stamp.{Stamp}
use Rattle.base_trait.specs.declared.uses.Stamp.TheVariants.{Entry, At}
use Rattle.abstract_map_laws.specs.declared.cell.AbstractCell.{AbstractCell}
use Rattle.abstract_map_laws.specs.Calls.{folded}
use Rattle.abstract_map_laws.specs.Maps.{Map}
use Rattle.spec_ir.specs.Environment.{Environment}
use Rattle.spec_ir.specs.Texts.{cases_of}
use Rattle.semantics_values.specs.declared.value.Cell.{Cell as ConcreteCell}
use Rattle.semantics_values.specs.Values as v
use Rattle.semantics_values.specs.Values.{Val, Vals}
use Rattle.abstract_value_laws.specs.Abs.{Abs, Cases, Parts, flag, word, made, map, no_case, absent, present, no_part, part}
use Rattle.abstract_value_laws.specs.TypeShapes.{width_of}

-- this truth value alone
abbrev pub only : Bool → Tri
only b = record { may_true = b; may_false = not b }

module _ {W N : Type 0} where
  -- so many missing constructors, in front of more
  abbrev pub absent_onto : ℕ → Cases W N → Cases W N
  absent_onto zero rest = rest
  absent_onto (suc n) rest = absent (absent_onto n rest)

  -- of so many constructors one is present
  abbrev pub one_case : ℕ → ℕ → Parts W N → Cases W N
  one_case zero k xs = no_case
  one_case (suc n) zero xs = present xs (absent_onto n no_case)
  one_case (suc n) (suc k) xs = absent (one_case n k xs)

-- how many constructors a datatype has
abbrev pub case_count : Environment → ℕ → ℕ
case_count env t = length (cases_of (slice_get env.datas t))

-- ---- values whose numbers are of their widths, and whose constructors and maps are declared
-- The cells of a concrete map: numbers of a width, at keys that ascend below 2^32.
pub record MapFits (w : ℕ) (rest : ConcreteCell) (cells : List (ℕ × ConcreteCell)) : Type 0 where
  pub width : IsWidth w
  pub rest_fits : rest.v < 2 ^ w
  pub cells_fit : Each (λ e. e.1.v < 2 ^ w) cells
  pub order : IsAscending (map_of (λ e. e.0) cells)
  pub bound : Each (λ k. k < 2 ^ 32) (map_of (λ e. e.0) cells)

module _ (env : Environment) where
  abbrev mutual
    pub ValueFits : Val → Type 0
    ValueFits (v.flag b) = ⊤
    ValueFits (v.word w n) = IsWidth w × (n < 2 ^ w)
    ValueFits (v.made t k ps) = (k < case_count env t) × ValuesFit ps
    ValueFits (v.map m rest cells) = MapFits (width_of (slice_get env.maps m)) rest cells

    pub ValuesFit : Vals → Type 0
    ValuesFit v.no_val = ⊤
    ValuesFit (v.val_then p ps) = ValueFits p × ValuesFit ps

-- ---- the stamps of a value
abbrev pub cell_stamps : List (ℕ × ConcreteCell) → List Stamp
cell_stamps cells = map_of (λ e. e.1.stamp) cells

abbrev mutual
  pub stamps_of : Val → List Stamp
  stamps_of (v.flag b) = []
  stamps_of (v.word w n) = []
  stamps_of (v.made t k ps) = stamps_in ps
  stamps_of (v.map m rest cells) = rest.stamp ∷ cell_stamps cells

  pub stamps_in : Vals → List Stamp
  stamps_in v.no_val = []
  stamps_in (v.val_then p ps) = stamps_of p ++ stamps_in ps

-- ---- the abstract value
module _ {W N C : Type 0} (B : Algebra W N C) where
  abbrev pub note_of : Stamp → N
  note_of Entry = B.notes.entry
  note_of (At a) = B.notes.at a

  module _ (c : C) where
    abbrev pub cell_of : ℕ → ConcreteCell → AbstractCell W N
    cell_of w cell = record { word = B.words.constant c w cell.v; note = note_of cell.stamp }

    abbrev pub cells_of : ℕ → List (ℕ × ConcreteCell) → List (ℕ × AbstractCell W N)
    cells_of w cells = map_of (λ e. (e.0, cell_of w e.1)) cells

    module _ (cap : ℕ) where
      -- the map of the cells, with room for cap of them
      abbrev pub map_at : ℕ → ConcreteCell → List (ℕ × ConcreteCell) → Map W N
      map_at w rest cells = folded B c cap (record { width = w; rest = cell_of w rest; cells = cells_of w cells })

      module _ (env : Environment) where
        abbrev mutual
          -- words are constants, and of the constructors the value's own is present alone
          pub of_value : Val → Abs W N
          of_value (v.flag b) = flag (only b)
          of_value (v.word w n) = word w (B.words.constant c w n)
          of_value (v.made t k ps) = made t (one_case (case_count env t) k (of_values ps))
          of_value (v.map m rest cells) = map m (map_at (width_of (slice_get env.maps m)) rest cells)

          pub of_values : Vals → Parts W N
          of_values v.no_val = no_part
          of_values (v.val_then p ps) = part (of_value p) (of_values ps)

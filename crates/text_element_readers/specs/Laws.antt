-- What holds of what is read.
use Rattle.std.specs.Prelude.{◌≡◌, ◌≤◌, ℕ, Bool, true, List, Option, Some, length}
use Rattle.base_trait.specs.Algebra.{Algebra}
use Rattle.spec_ir.specs.Specification.{Spec}
use Rattle.semantics_values.specs.States.{State}
use Rattle.fixpoint_theory.specs.Elements.{Elements}
use Rattle.fixpoint_theory.specs.Outcome.{SamePost}
use Rattle.fixpoint_theory.specs.Pairs.{paired}
use Rattle.domain_laws.specs.States.{StateType, has_states, state_type}
use Rattle.domain_laws.specs.Cells.{cells}
use Rattle.domain_affine_laws.specs.Calls.{affine_elements, cell_count}
use Rattle.text_words.specs.Readings.{Readings}
use Rattle.text_lines.specs.Lines.{Lines}
use Rattle.text_element_readers.specs.Reading.{AffineRead, CellsRead, ElementReading, PairRead}

-- What is read of lines is one element, up to how that is written, or nothing; the lines left are some of these; and an element fits.
pub record ReadingLaws {E S : Type 0} (Reads : ElementReading E) (D : Elements E S) (spec : Spec) : Type 0 where
  pub one : (code : ℕ → Bool) (ls : Lines) (r s : Option E) (left later : Lines) → Reads spec code ls r left → Reads spec code ls s later → SamePost D r s × (left ≡ later)
  pub some_reading : (code : ℕ → Bool) (ls : Lines) → (r : Option E) × (left : Lines) × Reads spec code ls r left
  pub shorter : (code : ℕ → Bool) (ls : Lines) (r : Option E) (left : Lines) → Reads spec code ls r left → length left ≤ length ls
  pub fits : (code : ℕ → Bool) (ls : Lines) (x : E) (left : Lines) → Reads spec code ls (Some x) left → D.fits x

-- so it is of cells, over a base
abbrev pub CellsAreRead : {W N C : Type 0} → Algebra W N C → Readings W N → ℕ → Type 0
CellsAreRead {W} {N} {C} B readings cap =
    (c : C) (name : List ℕ) (spec : Spec) → has_states spec ≡ true → ReadingLaws (CellsRead readings cap name) (cells B c cap (state_type spec).fields) spec

-- of affine relations
abbrev pub RelationsAreRead : Type 0
RelationsAreRead = (t : StateType) (spec : Spec) → ReadingLaws (AffineRead (cell_count t)) (affine_elements t) spec

-- and of pairs, where it is of both parts
abbrev pub PairsAreRead : {E F : Type 0} → ElementReading E → ElementReading F → Elements E State → Elements F State → Type 0
PairsAreRead First Second A B = (spec : Spec) → ReadingLaws First A spec → ReadingLaws Second B spec → ReadingLaws (PairRead First Second) (paired A B) spec

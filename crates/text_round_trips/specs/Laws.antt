-- What is read of an element is what is written of it, and the other way round.
use Rattle.std.specs.Prelude.{◌≡◌, ℕ, Bool, true, List, IsTrue, codes, is_some}
use Rattle.std.specs.List.{list_all}
use Rattle.base_trait.specs.Algebra.{Algebra}
use Rattle.spec_ir.specs.Specification.{Spec}
use Rattle.fixpoint_theory.specs.Elements.{Elements}
use Rattle.fixpoint_theory.specs.Pairs.{paired}
use Rattle.domain_laws.specs.States.{StateType, has_states, state_type}
use Rattle.domain_laws.specs.Cells.{cells}
use Rattle.domain_affine_laws.specs.Calls.{affine_elements, cell_count}
use Rattle.state_text.specs.Laws.{HasFields}
use Rattle.text_words.specs.Reading.{behind}
use Rattle.text_words.specs.Readings.{Readings}
use Rattle.text_words.specs.Texts.{Texts}
use Rattle.text_lines.specs.Lines.{is_inside}
use Rattle.text_elements.specs.Parts.{AffineText, CellsText, ElementText, PairText}
use Rattle.text_element_readers.specs.Reading.{AffineRead, CellsRead, ElementReading, PairRead}
use Rattle.analysis_table_laws.specs.Domains.{HasNone}
use Rattle.analysis_table_laws.specs.Values.{PartsHaveNotes}
use Rattle.text_round_trips.specs.RoundTrips.{RoundTrips}

-- Cells are written and read back, where the name of the base has no end of a line, and the fields of states have such names and keys as
-- those of a machine have whose text has no fault.
abbrev pub CellsRoundTrip : {W N C : Type 0} → Algebra W N C → ((ℕ → Bool) → N → Type 0) → Texts W N → Readings W N → Type 0
CellsRoundTrip {C = C} B NoteFits texts readings =
    (c : C) (cap : ℕ) (name : List ℕ) (spec : Spec) → list_all is_inside name ≡ true → has_states spec ≡ true → HasFields spec
    → RoundTrips (CellsRead readings cap name) (CellsText name texts) (cells B c cap (state_type spec).fields) (λ code. PartsHaveNotes (NoteFits code)) spec

-- So are affine relations. The rows that are read may be others than those that were written: they generate the same submodule.
abbrev pub RelationsRoundTrip : Type 0
RelationsRoundTrip = (t : StateType) (spec : Spec) → RoundTrips (AffineRead (cell_count t)) AffineText (affine_elements t) (λ code. HasNone) spec

-- Each text of an element begins with the line of a part.
abbrev pub BeginWithPart : {E : Type 0} → ElementText E → Spec → Type 0
BeginWithPart {E} IsText spec = (x : E) (text : List ℕ) → IsText spec x text → IsTrue (is_some (behind (codes "part ") text))

-- Texts of cells do.
abbrev pub CellsBegin : {W N : Type 0} → Texts W N → Type 0
CellsBegin texts = (name : List ℕ) (spec : Spec) → BeginWithPart (CellsText name texts) spec

-- Texts of affine relations do.
abbrev pub RelationsBegin : Type 0
RelationsBegin = (spec : Spec) → BeginWithPart AffineText spec

-- Texts of pairs do, where those of their first part do.
abbrev pub PairsBegin : {E F : Type 0} → ElementText E → ElementText F → Type 0
PairsBegin First Second = (spec : Spec) → BeginWithPart First spec → BeginWithPart (PairText First Second) spec

-- Pairs are written and read back, where both parts are, and the texts of the second begin with the line of a part: so they end the first.
module _ {E F S : Type 0} (First : ElementReading E) (Second : ElementReading F) (FirstText : ElementText E) (SecondText : ElementText F) (A : Elements E S) (B : Elements F S)
    (J : (ℕ → Bool) → E → Type 0) (K : (ℕ → Bool) → F → Type 0) where
  abbrev pub PairsRoundTrip : Type 0
  PairsRoundTrip =
      (spec : Spec) → BeginWithPart SecondText spec → RoundTrips First FirstText A J spec → RoundTrips Second SecondText B K spec
      → RoundTrips (PairRead First Second) (PairText FirstText SecondText) (paired A B) (λ code x. J code x.0 × K code x.1) spec

-- What is written of analyses that are left open is read, and accepted.
use Rattle.std.specs.Prelude.{◌≡◌, ℕ, ◌<◌, ◌^◌, Bool, List, Some, IsTrue}
use Rattle.std.specs.List.{list_all}
use Rattle.base_trait.specs.Algebra.{Algebra}
use Rattle.semantics_values.specs.States.{State}
use Rattle.abstract_value_laws.specs.Abs.{Abs}
use Rattle.abstract_semantics.specs.Answers.{Answer}
use Rattle.code_image.specs.Faults.{IsImage}
use Rattle.code_image.specs.Image.{Image, code_at}
use Rattle.fixpoint_theory.specs.Elements.{Elements}
use Rattle.fixpoint_theory.specs.WorklistState.{IsComplete, IsLegal, worklist_state}
use Rattle.fixpoint_theory.specs.Table.{IsTableOf, Listings, TableFits}
use Rattle.fixpoint_theory.specs.declared.verdict.Verdict.TheVariants.{Accepted}
use Rattle.fixpoint_open_tables.specs.Endings.{Endings, endings_of}
use Rattle.fixpoint_open_tables.specs.LeftOpen.{left_open}
use Rattle.fixpoint_open_tables.specs.Verdicts.{IsVerdict}
use Rattle.domain_laws.specs.Domain.{Meaning}
use Rattle.analysis_transfer_laws.specs.Analysis.{analysis_of}
use Rattle.analysis_transfer_laws.specs.Laws.{IsAnalysed}
use Rattle.analysis_transfer_laws.specs.Problem.{Problem}
use Rattle.text_lines.specs.Lines.{is_inside}
use Rattle.text_elements.specs.Parts.{ElementText}
use Rattle.text_element_readers.specs.Reading.{ElementReading}
use Rattle.text_element_readers.specs.Words.{WordReading}
use Rattle.text_table_reader.specs.Ends.{is_word_of}
use Rattle.text_table_reader.specs.Tables.{IsOpenTableIn}
use Rattle.text_round_trips.specs.Analyses.{IsOfImage}
use Rattle.text_round_trips.specs.FirstTexts.{IsOpenTextOf}
use Rattle.text_round_trips.specs.TableLaws.{HasParts}
use Rattle.text_round_trips.specs.Writable.{AreEndingsOf, IsWritable}

-- each code word of an image has 32 bits, as its bytes have 8
abbrev pub HasCodeWords : Image → Type 0
HasCodeWords image = (a code_word : ℕ) → code_at image a ≡ Some code_word → code_word < 2 ^ 32

module _ {E W N C : Type 0} (B : Algebra W N C) (cap : ℕ) (D : Elements E State) (M : Meaning E W N C) (IsPrintable : (ℕ → Bool) → E → Type 0) where
  -- The table of a trace of an analysis that is left open, with its endings, is one that its texts tell.
  abbrev pub OpenTracesAreWritable : Type 0
  OpenTracesAreWritable =
      (p : Problem) (calls : ℕ → ℕ → List (Abs W N) → Answer (Abs W N)) (image : Image) (trace : List ℕ) (t : Listings E) → IsAnalysed B cap D M p calls → IsImage image → IsOfImage p image → HasCodeWords image
      → IsLegal (left_open (analysis_of B cap D M p calls)) trace → IsComplete (worklist_state (left_open (analysis_of B cap D M p calls)) trace)
      → TableFits (analysis_of B cap D M p calls) t → IsTableOf (left_open (analysis_of B cap D M p calls)) t (worklist_state (left_open (analysis_of B cap D M p calls)) trace)
      → IsWritable D IsPrintable p.spec (is_word_of image) t × AreEndingsOf (B.words.fits M.context 32) t (endings_of (analysis_of B cap D M p calls) t)

  module _ (Reads : ElementReading E) (word_in : WordReading W) (IsText : ElementText E) (word_text : ℕ → W → List ℕ) where
    -- Of the table of a complete legal trace with its endings each text is read as that table with them, and as none that is not accepted.
    abbrev pub TextsOfOpenTracesAreAccepted : Type 0
    TextsOfOpenTracesAreAccepted =
        (p : Problem) (calls : ℕ → ℕ → List (Abs W N) → Answer (Abs W N)) (image : Image) (base : List ℕ) (trace : List ℕ) (t : Listings E) (ends : Endings W) (text : List ℕ) → IsAnalysed B cap D M p calls
        → HasParts Reads word_in IsText word_text D IsPrintable (B.words.fits M.context 32) p.spec image → IsOfImage p image → HasCodeWords image → IsTrue (list_all is_inside base)
        → IsLegal (left_open (analysis_of B cap D M p calls)) trace → IsComplete (worklist_state (left_open (analysis_of B cap D M p calls)) trace)
        → TableFits (analysis_of B cap D M p calls) t → IsTableOf (left_open (analysis_of B cap D M p calls)) t (worklist_state (left_open (analysis_of B cap D M p calls)) trace)
        → ((a : ℕ) → ends a ≡ endings_of (analysis_of B cap D M p calls) t a) → IsOpenTextOf word_text (IsText p.spec) p.spec image base t ends text
        → IsOpenTableIn Reads word_in p.spec base image text t ends
        × ((u : Listings E) (others : Endings W) → IsOpenTableIn Reads word_in p.spec base image text u others → IsVerdict (analysis_of B cap D M p calls) u others Accepted)

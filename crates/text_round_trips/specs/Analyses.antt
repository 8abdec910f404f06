-- What is written of analyses is read, and accepted.
use Rattle.std.specs.Prelude.{◌≡◌, ℕ, Bool, List, IsTrue}
use Rattle.std.specs.List.{list_all}
use Rattle.base_trait.specs.Algebra.{Algebra}
use Rattle.semantics_values.specs.States.{State}
use Rattle.abstract_value_laws.specs.Abs.{Abs}
use Rattle.abstract_semantics.specs.Answers.{Answer}
use Rattle.code_image.specs.Faults.{IsImage}
use Rattle.code_image.specs.Image.{Image, addresses, code_at}
use Rattle.fixpoint_theory.specs.Elements.{Elements}
use Rattle.fixpoint_theory.specs.WorklistState.{IsComplete, IsLegal, worklist_state}
use Rattle.fixpoint_theory.specs.Table.{IsTableOf, Listings, TableFits}
use Rattle.fixpoint_theory.specs.Verdicts.{verdict_of}
use Rattle.fixpoint_theory.specs.declared.verdict.Verdict.TheVariants.{Accepted}
use Rattle.domain_laws.specs.Domain.{Meaning}
use Rattle.analysis_transfer_laws.specs.Analysis.{analysis_of}
use Rattle.analysis_transfer_laws.specs.Laws.{IsAnalysed}
use Rattle.analysis_transfer_laws.specs.Problem.{Problem}
use Rattle.text_lines.specs.Lines.{is_inside}
use Rattle.text_elements.specs.Parts.{ElementText}
use Rattle.text_element_readers.specs.Reading.{ElementReading}
use Rattle.text_element_readers.specs.Words.{WordReading}
use Rattle.text_table_reader.specs.Ends.{is_word_of}
use Rattle.text_table_reader.specs.Tables.{IsTableIn}
use Rattle.text_round_trips.specs.FirstTexts.{IsTextOf}
use Rattle.text_round_trips.specs.TableLaws.{HasParts}
use Rattle.text_round_trips.specs.Writable.{IsWritable}

-- The words of the problem are those of the image.
pub record IsOfImage (p : Problem) (image : Image) : Type 0 where
  pub addresses_are : p.addresses ≡ addresses image.segments
  pub words_are : p.word_at ≡ code_at image

module _ {E W N C : Type 0} (B : Algebra W N C) (cap : ℕ) (D : Elements E State) (M : Meaning E W N C) (IsPrintable : (ℕ → Bool) → E → Type 0) where
  -- The table of a trace is one that its texts tell.
  abbrev pub TracesAreWritable : Type 0
  TracesAreWritable =
      (p : Problem) (calls : ℕ → ℕ → List (Abs W N) → Answer (Abs W N)) (image : Image) (trace : List ℕ) (t : Listings E) → IsAnalysed B cap D M p calls → IsImage image → IsOfImage p image
      → TableFits (analysis_of B cap D M p calls) t → IsTableOf (analysis_of B cap D M p calls) t (worklist_state (analysis_of B cap D M p calls) trace)
      → IsWritable D IsPrintable p.spec (is_word_of image) t

  module _ (Reads : ElementReading E) (word_in : WordReading W) (IsText : ElementText E) (word_text : ℕ → W → List ℕ) (Fits : W → Type 0) where
    -- Of the table of a complete legal trace each text is read as that table, and as no table that is not accepted.
    abbrev pub TextsOfTracesAreAccepted : Type 0
    TextsOfTracesAreAccepted =
        (p : Problem) (calls : ℕ → ℕ → List (Abs W N) → Answer (Abs W N)) (image : Image) (base : List ℕ) (trace : List ℕ) (t : Listings E) (text : List ℕ) → IsAnalysed B cap D M p calls
        → HasParts Reads word_in IsText word_text D IsPrintable Fits p.spec image → IsOfImage p image → IsTrue (list_all is_inside base)
        → IsLegal (analysis_of B cap D M p calls) trace → IsComplete (worklist_state (analysis_of B cap D M p calls) trace)
        → TableFits (analysis_of B cap D M p calls) t → IsTableOf (analysis_of B cap D M p calls) t (worklist_state (analysis_of B cap D M p calls) trace) → IsTextOf (IsText p.spec) p.spec image base t text
        → IsTableIn Reads word_in p.spec base image text t × ((u : Listings E) → IsTableIn Reads word_in p.spec base image text u → verdict_of (analysis_of B cap D M p calls) u ≡ Accepted)

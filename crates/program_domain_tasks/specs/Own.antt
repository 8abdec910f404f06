-- What is asked comes to with the elements of the code, which are seen as the plain ones of definitions.
use Rattle.std.specs.Prelude.{◌≡◌, ℕ, false, List, [], Option, Ok, Err, option_map}
use Rattle.base_trait.specs.Algebra.{Algebra}
use Rattle.analysis_query_laws.specs.Answers.{Telling}
use Rattle.semantics_values.specs.declared.entry.KeyAt.{KeyAt}
use Rattle.semantics_values.specs.States.{State}
use Rattle.fixpoint_cases.specs.Pieces.{Piece}
use Rattle.code_image.specs.Image.{Image}
use Rattle.fixpoint_theory.specs.Elements.{Elements}
use Rattle.fixpoint_theory.specs.WorklistState.{IsComplete, IsLegal, worklist_state}
use Rattle.fixpoint_theory.specs.Table.{IsTableOf, TableFits}
use Rattle.fixpoint_theory.specs.Views.{listings}
use Rattle.fixpoint_theory.specs.declared.table.Table.{Table}
use Rattle.domain_laws.specs.Domain.{Meaning}
use Rattle.analysis_transfer_laws.specs.Problem.{Problem}
use Rattle.analysis_transfer_laws.specs.Runs.{IsTrueOfRuns}
use Rattle.text_elements.specs.Parts.{ElementText}
use Rattle.text_element_readers.specs.Reading.{ElementReading}
use Rattle.text_element_readers.specs.Words.{WordReading}
use Rattle.text_faults.specs.declared.table_error.TableError.{TableError}
use Rattle.fixpoint_open_tables.specs.Endings.{Endings}
use Rattle.text_table_reader.specs.Tables.{IsErrorIn, IsOpenTableIn, IsTableIn}
use Rattle.text_table_reader.specs.Readings.{IsFirstOpen}
use Rattle.text_tables.specs.Open.{IsOpenTableText}
use Rattle.fixpoint_theory.specs.Verdicts.{verdict_of}
use Rattle.fixpoint_theory.specs.declared.verdict.Verdict.{Verdict}
use Rattle.fixpoint_theory.specs.declared.verdict.Verdict.TheVariants as v
use Rattle.spec_ir.specs.Specification.{Spec}
use Rattle.program_domains.specs.Checks.{outcome_of}
use Rattle.text_tables.specs.Tables.{IsTableText}
use Rattle.program_common.specs.Outcome as o
use Rattle.program_common.specs.Outcome.{Outcome, Refusal, rejected, table_refused, text}
use Rattle.program_common.specs.declared.rejection.Rejection.TheVariants as r
use Rattle.program_domains.specs.Analyses.{IsShort, IsStop, analysis}
use Rattle.program_domains.specs.Domains.{DomainOf}
use Rattle.program_domains.specs.Tasks.{Task}
use Rattle.program_domains.specs.Work.{IsWork}

-- The elements X of the code, how they are seen, and the domain that their calls make.
pub record Own (X E W N C : Type 0) : Type 1 where
  pub base : Algebra W N C
  pub cap : ℕ
  pub elements : Elements E State
  pub meaning : Meaning E W N C
  pub pieces : Piece (ℕ × KeyAt) E
  pub view : X → E
  pub IsText : ElementText X
  pub Reads : ElementReading X
  pub word_in : WordReading W
  pub word_text : ℕ → W → List ℕ

-- elements that tell nothing of claims
abbrev pub silent : {E : Type 0} → Telling E
silent = record {
  takes_ranges = false;
  takes_sums = false;
  tracked = [];
  in_range = λ x field key lo hi. false;
  excludes = λ x field key v. false;
  meets = λ x form. false;
}

module _ {X E W N C : Type 0} (own : Own X E W N C) where
  -- The same as definitions have it: a text of a plain element is one of an element that is seen so. What is told of claims is left out.
  abbrev pub as_defined : DomainOf E W N C
  as_defined = record {
    base = own.base;
    cap = own.cap;
    elements = own.elements;
    meaning = own.meaning;
    pieces = own.pieces;
    IsText = λ spec e t. (x : X) × (own.view x ≡ e) × own.IsText spec x t;
    Reads = λ spec code ls r rest. (x : Option X) × (option_map own.view x ≡ r) × own.Reads spec code ls x rest;
    word_in = own.word_in;
    word_text = own.word_text;
    telling = silent;
  }

  -- A text is refused that is to be of a table of which no block is left open.
  pub data IsOwnRefused (spec : Spec) (image : Image) (base bytes : List ℕ) : Refusal → Type 0 where
    faulty : {error : TableError} → IsErrorIn own.Reads own.word_in spec base image bytes error → IsOwnRefused spec image base bytes (table_refused error)
    left_open : {at : ℕ} (table : Table X) (ends : Endings W) → IsOpenTableIn own.Reads own.word_in spec base image bytes (listings (λ x. x) table) ends → IsFirstOpen ends at
        → IsOwnRefused spec image base bytes (rejected (r.Targets at))

  abbrev pub OwnRefuses : Spec → Image → List ℕ → List ℕ → Outcome → Type 0
  OwnRefuses spec image base bytes (Ok answer) = ⊥
  OwnRefuses spec image base bytes (Err refusal) = IsOwnRefused spec image base bytes refusal

  module _ (p : Problem) where
    -- A table of the code is that of the analysis, true of the runs, and the bytes are its text.
    pub record IsOwnTable (image : Image) (base bytes : List ℕ) : Type 0 where
      pub trace : List ℕ
      pub table : Table X
      pub legal : IsLegal (analysis as_defined p) trace
      pub complete : IsComplete (worklist_state (analysis as_defined p) trace)
      pub few : IsShort as_defined p trace
      pub is_table : IsTableOf (analysis as_defined p) (listings own.view table) (worklist_state (analysis as_defined p) trace)
      pub fits : TableFits (analysis as_defined p) (listings own.view table)
      pub is_true : IsTrueOfRuns own.base own.elements p (listings own.view table)
      pub text : IsTableText (own.IsText p.spec) p.spec image base (listings (λ x. x) table) bytes

    abbrev pub OwnComesTo : Image → List ℕ → Outcome → Type 0
    OwnComesTo image base (Ok (text bytes)) = IsOwnTable image base bytes
    OwnComesTo image base (Ok (o.undecodable bytes)) = ⊥
    OwnComesTo image base (Ok (o.calls_ended bytes)) = ⊥
    OwnComesTo image base (Err refusal) = IsStop as_defined p refusal

    -- ---- checks

    -- This is the verdict on a table of the code, which fits. Where it is that the table is closed, that is true of the runs.
    pub record IsOwnVerdict (table : Table X) (verdict : Verdict W) : Type 0 where
      pub fits : TableFits (analysis as_defined p) (listings own.view table)
      pub is : verdict ≡ verdict_of (analysis as_defined p) (listings own.view table)
      pub is_true : verdict ≡ v.Accepted → IsTrueOfRuns own.base own.elements p (listings own.view table)

    -- A table of the code is that of the text, fits, and is true of the runs where it is closed.
    pub record IsOwnJudged (image : Image) (base bytes : List ℕ) (table : Table X) : Type 0 where
      pub is_table : IsTableIn own.Reads own.word_in p.spec base image bytes (listings (λ x. x) table)
      pub fits : TableFits (analysis as_defined p) (listings own.view table)
      pub is_true : verdict_of (analysis as_defined p) (listings own.view table) ≡ v.Accepted → IsTrueOfRuns own.base own.elements p (listings own.view table)

    pub data OwnJudges (image : Image) (base bytes : List ℕ) : Outcome → Type 0 where
      refused : {refusal : Refusal} → IsOwnRefused p.spec image base bytes refusal → OwnJudges image base bytes (Err refusal)
      judged : (table : Table X) → IsOwnJudged image base bytes table → OwnJudges image base bytes (outcome_of own.word_text (verdict_of (analysis as_defined p) (listings own.view table)))

  -- ---- conversions

  pub data OwnRewrites (spec : Spec) (image : Image) (base bytes : List ℕ) : Outcome → Type 0 where
    unread : {error : TableError} → IsErrorIn own.Reads own.word_in spec base image bytes error → OwnRewrites spec image base bytes (Err (table_refused error))
    rewritten : (table : Table X) (ends : Endings W) (new : List ℕ) → IsOpenTableIn own.Reads own.word_in spec base image bytes (listings (λ x. x) table) ends
        → IsOpenTableText own.word_text (own.IsText spec) spec image base (listings (λ x. x) table) ends new → OwnRewrites spec image base bytes (Ok (text new))

  -- ---- how many transfers it takes

  abbrev pub OwnWork : Image → List ℕ → Task → ℕ → ℕ → Type 0
  OwnWork = IsWork as_defined

-- What checks, slices and claims of tables that may be left open come to with the elements of the code.
use Rattle.std.specs.Prelude.{◌≡◌, ℕ, List, Ok, Err}
use Rattle.code_image.specs.Image.{Image}
use Rattle.fixpoint_theory.specs.Table.{TableFits}
use Rattle.fixpoint_theory.specs.Views.{listings}
use Rattle.fixpoint_theory.specs.declared.table.Table.{Table}
use Rattle.fixpoint_theory.specs.declared.verdict.Verdict.{Verdict}
use Rattle.fixpoint_theory.specs.declared.verdict.Verdict.TheVariants as v
use Rattle.fixpoint_open_tables.specs.Endings.{Endings}
use Rattle.fixpoint_open_tables.specs.Verdicts.{IsVerdict}
use Rattle.text_faults.specs.declared.claim_error.ClaimError.{ClaimError}
use Rattle.analysis_query_laws.specs.Answers.{Telling}
use Rattle.analysis_query_laws.specs.Claims.{Claim}
use Rattle.text_claims.specs.Answers.{answers}
use Rattle.text_claims.specs.Reading.{has_word, read}
use Rattle.text_slices.specs.declared.slice_cell.SliceCell.{SliceCell}
use Rattle.text_faults.specs.declared.table_error.TableError.{TableError}
use Rattle.text_table_reader.specs.Tables.{IsErrorIn, IsOpenTableIn}
use Rattle.analysis_transfer_laws.specs.OpenRuns.{IsTrueUntilOpen}
use Rattle.analysis_transfer_laws.specs.Problem.{Problem}
use Rattle.program_common.specs.Outcome.{Outcome, claims_refused, table_refused}
use Rattle.program_domains.specs.Analyses.{analysis}
use Rattle.program_domains.specs.Checks.{outcome_of}
use Rattle.program_domains.specs.Closed.{ByVerdict}
use Rattle.program_domains.specs.Slices.{IsSliceText}
use Rattle.program_domains.specs.Until.{Marked}
use Rattle.program_domain_tasks.specs.Own.{Own, as_defined}

module _ {X E W N C : Type 0} (own : Own X E W N C) (p : Problem) where
  -- This is the verdict on a table of the code with its endings, and the table fits. Where it is that they are accepted, it is true of the runs until they are
  -- at an open address.
  pub record IsOwnOpenVerdict (table : Table X) (ends : Endings W) (verdict : Verdict W) : Type 0 where
    pub fits : TableFits (analysis (as_defined own) p) (listings own.view table)
    pub is : IsVerdict (analysis (as_defined own) p) (listings own.view table) ends verdict
    pub is_true : verdict ≡ v.Accepted → IsTrueUntilOpen own.base own.elements p (listings own.view table) ends

  -- The text is that of the table, and this is the verdict on it.
  pub record IsOwnOpenJudged (image : Image) (base bytes : List ℕ) (table : Table X) (ends : Endings W) (verdict : Verdict W) : Type 0 where
    pub is_table : IsOpenTableIn own.Reads own.word_in p.spec base image bytes (listings (λ x. x) table) ends
    pub is_verdict : IsOwnOpenVerdict table ends verdict

  pub data OwnJudgesOpen (image : Image) (base bytes : List ℕ) : Outcome → Type 0 where
    unread_check : {error : TableError} → IsErrorIn own.Reads own.word_in p.spec base image bytes error → OwnJudgesOpen image base bytes (Err (table_refused error))
    judged_check : (table : Table X) (ends : Endings W) (verdict : Verdict W) → IsOwnOpenJudged image base bytes table ends verdict → OwnJudgesOpen image base bytes (outcome_of own.word_text verdict)

  pub data OwnSlicesOpen (image : Image) (base bytes : List ℕ) (at : ℕ) (cell : SliceCell) : Outcome → Type 0 where
    unread_slice : {error : TableError} → IsErrorIn own.Reads own.word_in p.spec base image bytes error → OwnSlicesOpen image base bytes at cell (Err (table_refused error))
    judged_slice : {outcome : Outcome} (table : Table X) (ends : Endings W) (verdict : Verdict W) → IsOwnOpenJudged image base bytes table ends verdict
        → ByVerdict own.word_text (Marked ends (IsSliceText p.spec (listings (λ x. x) table) at cell)) verdict outcome → OwnSlicesOpen image base bytes at cell outcome

  -- where elements tell this of claims
  pub data OwnClaimsOpen (K : Telling X) (image : Image) (base bytes list : List ℕ) : Outcome → Type 0 where
    unread_table : {error : TableError} → IsErrorIn own.Reads own.word_in p.spec base image bytes error → OwnClaimsOpen K image base bytes list (Err (table_refused error))
    unread_claims : {error : ClaimError} (table : Table X) (ends : Endings W) → IsOpenTableIn own.Reads own.word_in p.spec base image bytes (listings (λ x. x) table) ends
        → read K (has_word image) p.spec list ≡ Err error → OwnClaimsOpen K image base bytes list (Err (claims_refused error))
    judged_claims : {outcome : Outcome} (table : Table X) (ends : Endings W) (verdict : Verdict W) (claims : List Claim) → IsOwnOpenJudged image base bytes table ends verdict
        → read K (has_word image) p.spec list ≡ Ok claims → ByVerdict own.word_text (Marked ends (λ lines. lines ≡ answers K (listings (λ x. x) table) claims)) verdict outcome
        → OwnClaimsOpen K image base bytes list outcome

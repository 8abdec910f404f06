-- What the code's checks, slices and claims of tables that may be left open come to.
use Rattle.std.proofs.Common.{◌≡◌, ℕ, List, sym, subst}
use Rattle.std.specs.Prelude.{IfOk, Result, Ok, Err}
use Rattle.std.specs.Result.{IsErrAnd}
use Rattle.code_image.specs.Image.{Image}
use Rattle.fixpoint_theory.specs.Table.{TableFits}
use Rattle.fixpoint_theory.specs.Views.{listings}
use Rattle.fixpoint_theory.specs.declared.table.Table.{Table}
use Rattle.fixpoint_theory.specs.declared.verdict.Verdict.{Verdict}
use Rattle.fixpoint_theory.specs.declared.verdict.Verdict.TheVariants as v
use Rattle.fixpoint_open_tables.specs.Endings.{Endings}
use Rattle.fixpoint_open_tables.specs.Verdicts.{IsVerdict}
use Rattle.text_slices.specs.declared.slice_cell.SliceCell.{SliceCell}
use Rattle.analysis_query_laws.specs.Answers.{Telling}
use Rattle.analysis_query_laws.specs.Claims.{Claim}
use Rattle.text_claims.specs.Answers.{answers}
use Rattle.text_claims.specs.Reading.{has_word, read}
use Rattle.text_table_reader.specs.Tables.{IsOpenTableIn}
use Rattle.analysis_transfer_laws.specs.OpenRuns.{IsTrueUntilOpen}
use Rattle.analysis_transfer_laws.specs.Problem.{Problem}
use Rattle.program_common.specs.declared.outcome.Halt.{Halt}
use Rattle.program_common.specs.Outcome.{Answer, Outcome, calls_ended, text, undecodable}
use Rattle.program_common.specs.Outcomes.{Gives}
use Rattle.program_domains.specs.Analyses.{analysis}
use Rattle.program_domains.specs.Checks.{accepted_line}
use Rattle.program_domains.specs.Closed.{ByVerdict}
use Rattle.program_domains.specs.Slices.{IsSliceText}
use Rattle.program_domains.specs.Until.{IsMarked, Marked}
use Rattle.program_domain_tasks.specs.Closed.{IsClosedOr}
use Rattle.program_open_tasks.specs.OpenTables.{IsOwnOpenJudged, IsOwnOpenVerdict, OwnClaimsOpen, OwnJudgesOpen, OwnSlicesOpen, judged_check, judged_claims, judged_slice}
use Rattle.program_domain_tasks.specs.Own.{Own, as_defined}
use Rattle.program_domain_tasks.specs.Read.{IsTextOf}
use Rattle.program_domain_tasks.proofs.Owning.{checked_by, gives_answer, gives_refusal}

-- a text of a kind, behind the line `until open` where it stands
pub marked_text : {W : Type 0} (ends : Endings W) (Is : List ℕ → Type 0) (bytes : List ℕ) (answer : Answer) → Is bytes → IsTextOf (IsMarked ends bytes) answer → IsTextOf (Marked ends Is) answer
marked_text ends Is bytes (text written) is told = (bytes, is, told)
marked_text ends Is bytes (undecodable written) is told = told
marked_text ends Is bytes (calls_ended written) is told = told

module _ {X E W N C : Type 0} (own : Own X E W N C) (p : Problem) where
  -- the verdict of a check
  pub own_open_verdict : {F : Type 0} (table : Table X) (ends : Endings W) (r : Result (Verdict W) F) → TableFits (analysis (as_defined own) p) (listings own.view table)
      → IfOk r (IsVerdict (analysis (as_defined own) p) (listings own.view table) ends) → IfOk r (λ x. x ≡ v.Accepted → IsTrueUntilOpen own.base own.elements p (listings own.view table) ends)
      → IfOk r (λ x. IsOwnOpenVerdict own p table ends x)
  own_open_verdict table ends (Ok x) fits is runs = record { fits = fits; is = is; is_true = runs }
  own_open_verdict table ends (Err error) fits is runs = tt

  module _ (image : Image) (base bytes : List ℕ) (table : Table X) (ends : Endings W) (x : Verdict W) (is_table : IsOpenTableIn own.Reads own.word_in p.spec base image bytes (listings (λ x. x) table) ends) (is : IsOwnOpenVerdict own p table ends x) where
    own_judged : IsOwnOpenJudged own p image base bytes table ends x
    own_judged = record { is_table = is_table; is_verdict = is }

    abbrev AreSlices : ℕ → SliceCell → List ℕ → Type 0
    AreSlices at cell = Marked ends (IsSliceText p.spec (listings (λ x. x) table) at cell)

    abbrev AreAnswers : Telling X → List Claim → List ℕ → Type 0
    AreAnswers K claims = Marked ends (λ lines. lines ≡ answers K (listings (λ x. x) table) claims)

    own_checked : (found : Outcome) → ByVerdict own.word_text (λ line. line ≡ accepted_line) x found → OwnJudgesOpen own p image base bytes found
    own_checked found by = subst (OwnJudgesOpen own p image base bytes) (sym (checked_by own.word_text x found by)) (judged_check table ends x own_judged)

    own_sliced : (at : ℕ) (cell : SliceCell) (found : Outcome) → ByVerdict own.word_text (AreSlices at cell) x found → OwnSlicesOpen own p image base bytes at cell found
    own_sliced at cell found by = judged_slice table ends x own_judged by

    own_claimed : (K : Telling X) (list : List ℕ) (claims : List Claim) → read K (has_word image) p.spec list ≡ Ok claims → (found : Outcome) → ByVerdict own.word_text (AreAnswers K claims) x found
        → OwnClaimsOpen own p K image base bytes list found
    own_claimed K list claims e found by = judged_claims table ends x claims own_judged e by

    -- what is given for a table that is accepted, and for one that is not
    pub open_checked_answer : (answer : Answer) → x ≡ v.Accepted → IsTextOf (λ line. line ≡ accepted_line) answer → OwnJudgesOpen own p image base bytes (Ok answer)
    open_checked_answer answer closed told = gives_answer own.word_text (λ line. line ≡ accepted_line) (OwnJudgesOpen own p image base bytes) x own_checked answer closed told

    pub open_checked_refusal : {A : Type 0} (seen : A → Answer) (halt : Halt) → IsClosedOr own.word_text x (Err halt) → (r : Result A Halt) → IsErrAnd r (λ h. h ≡ halt) → Gives (OwnJudgesOpen own p image base bytes) seen r
    open_checked_refusal seen halt rejects r same = gives_refusal own.word_text (λ line. line ≡ accepted_line) (OwnJudgesOpen own p image base bytes) x own_checked seen halt rejects r same

    pub open_sliced_answer : (at : ℕ) (cell : SliceCell) (answer : Answer) → x ≡ v.Accepted → IsTextOf (AreSlices at cell) answer → OwnSlicesOpen own p image base bytes at cell (Ok answer)
    open_sliced_answer at cell answer closed told = gives_answer own.word_text (AreSlices at cell) (OwnSlicesOpen own p image base bytes at cell) x (own_sliced at cell) answer closed told

    pub open_sliced_refusal : {A : Type 0} (at : ℕ) (cell : SliceCell) (seen : A → Answer) (halt : Halt) → IsClosedOr own.word_text x (Err halt) → (r : Result A Halt) → IsErrAnd r (λ h. h ≡ halt)
        → Gives (OwnSlicesOpen own p image base bytes at cell) seen r
    open_sliced_refusal at cell seen halt rejects r same = gives_refusal own.word_text (AreSlices at cell) (OwnSlicesOpen own p image base bytes at cell) x (own_sliced at cell) seen halt rejects r same

    module _ (K : Telling X) (list : List ℕ) (claims : List Claim) (are_read : read K (has_word image) p.spec list ≡ Ok claims) where
      pub open_claimed_answer : (answer : Answer) → x ≡ v.Accepted → IsTextOf (AreAnswers K claims) answer → OwnClaimsOpen own p K image base bytes list (Ok answer)
      open_claimed_answer answer closed told = gives_answer own.word_text (AreAnswers K claims) (OwnClaimsOpen own p K image base bytes list) x (own_claimed K list claims are_read) answer closed told

      pub open_claimed_refusal : {A : Type 0} (seen : A → Answer) (halt : Halt) → IsClosedOr own.word_text x (Err halt) → (r : Result A Halt) → IsErrAnd r (λ h. h ≡ halt) → Gives (OwnClaimsOpen own p K image base bytes list) seen r
      open_claimed_refusal seen halt rejects r same = gives_refusal own.word_text (AreAnswers K claims) (OwnClaimsOpen own p K image base bytes list) x (own_claimed K list claims are_read) seen halt rejects r same

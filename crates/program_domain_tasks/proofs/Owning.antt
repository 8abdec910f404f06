-- What the code's analyses come to.
use Rattle.std.proofs.Common.{◌≡◌, ◌⊎◌, ℕ, Bool, List, [], ◌∷◌, ap, inl, inr, sym, subst, ◌∙◌}
use Rattle.std.specs.Prelude.{IfErr, IfOk, Result, Ok, Err}
use Rattle.std.specs.Result.{IsErrAnd}
use Rattle.code_image.specs.Image.{Image}
use Rattle.fixpoint_theory.specs.Analysis.{AnalysisLaws}
use Rattle.fixpoint_theory.specs.Table.{TableFits}
use Rattle.fixpoint_theory.specs.Outcome.{too_many}
use Rattle.fixpoint_theory.specs.Verdicts.{verdict_of}
use Rattle.fixpoint_theory.specs.Views.{listings}
use Rattle.fixpoint_theory.specs.declared.table.Table.{Table}
use Rattle.fixpoint_theory.proofs.Potential.{legal_traces_are_short}
use Rattle.fixpoint_theory.specs.declared.verdict.Verdict.{Verdict}
use Rattle.fixpoint_theory.specs.declared.verdict.Verdict.TheVariants as v
use Rattle.spec_ir.specs.Specification.{Spec}
use Rattle.base_trait.specs.Lists.{Each}
use Rattle.domain_laws.specs.States.{state_type}
use Rattle.text_faults.specs.declared.table_error.TableError.{TableError}
use Rattle.text_faults.specs.declared.table_error.TableError.TheVariants as reading
use Rattle.fixpoint_open_tables.specs.Endings.{Endings}
use Rattle.text_table_reader.specs.Tables.{IsErrorIn, IsOpenTableIn, IsTableIn}
use Rattle.text_tables.specs.Open.{IsOpenTableText}
use Rattle.analysis_transfer_laws.specs.Problem.{Problem}
use Rattle.analysis_transfer_laws.specs.Runs.{IsTrueOfRuns}
use Rattle.fixpoint_worklist.specs.Answers.{IsErrorOf, IsReportOf, IsStopOf}
use Rattle.fixpoint_worklist.specs.declared.report.Report.{Report}
use Rattle.fixpoint_worklist.specs.declared.report.AnalyseError.{AnalyseError}
use Rattle.fixpoint_worklist.specs.declared.report.AnalyseError.TheVariants as stop
use Rattle.text_tables.specs.Tables.{IsTableText}
use Rattle.text_slices.specs.declared.slice_cell.SliceCell.{SliceCell}
use Rattle.text_faults.specs.declared.claim_error.ClaimError.{ClaimError}
use Rattle.text_faults.specs.declared.claim_error.ClaimError.TheVariants as claiming
use Rattle.analysis_query_laws.specs.Answers.{Telling}
use Rattle.analysis_query_laws.specs.Claims.{Claim}
use Rattle.analysis_query_laws.specs.Laws.{IsClaim}
use Rattle.text_claims.specs.Laws.{IsReadClaim}
use Rattle.text_claims.specs.Answers.{answers}
use Rattle.text_claims.specs.Reading.{has_word, read}
use Rattle.program_common.specs.declared.outcome.Halt.{Halt}
use Rattle.program_common.specs.declared.outcome.Halt.TheVariants.{NoMemory, Refused}
use Rattle.program_common.specs.declared.outcome.Refusal.TheVariants.{BadWords, CannotRead, TooLong, SpecRefused, CodeRefused, EntryRefused, CallsSpent, UndecodableAt, TooManyTargets, TableRefused, ClaimsRefused, Rejected}
use Rattle.program_common.specs.Outcome.{Answer, Outcome, Refusal, claims_refused, table_refused, text, undecodable, calls_ended}
use Rattle.program_common.specs.Outcomes.{Gives, Stops, halt_of_claims, halt_of_table, refusal_of}
use Rattle.program_domains.specs.Analyses.{analysis}
use Rattle.program_domains.specs.Checks.{accepted_line, outcome_of}
use Rattle.program_domains.specs.Closed.{ByVerdict}
use Rattle.program_domains.specs.Slices.{IsSliceText}
use Rattle.program_domain_tasks.specs.Claims as of_claims
use Rattle.program_domain_tasks.specs.Claims.{OwnClaims}
use Rattle.program_domain_tasks.specs.Closed.{IsClosedOr}
use Rattle.program_domain_tasks.specs.Own.{IsOwnJudged, IsOwnRefused, IsOwnVerdict, Own, OwnComesTo, OwnJudges, OwnRefuses, OwnRewrites, as_defined, faulty, judged, rewritten}
use Rattle.program_domain_tasks.specs.Slices as slices
use Rattle.program_domain_tasks.specs.Slices.{OwnSlices}
use Rattle.program_domain_tasks.specs.Read.{Refuses, IsTextOf}

module _ {X E W N C : Type 0} (own : Own X E W N C) (p : Problem) (image : Image) (base : List ℕ) where
  -- a table with its text
  pub own_table : (r : Report X) (answer : Answer) → AnalysisLaws (analysis (as_defined own) p) → IsReportOf (analysis (as_defined own) p) own.view r → TableFits (analysis (as_defined own) p) (listings own.view r.table) → IsTrueOfRuns own.base own.elements p (listings own.view r.table)
      → IsTextOf (IsTableText (own.IsText p.spec) p.spec image base (listings (λ x. x) r.table)) answer → OwnComesTo own p image base (Ok answer)
  own_table r (text bytes) laws reports fits runs told = record { trace = r.trace.items; table = r.table; legal = reports.legal; complete = reports.complete; few = legal_traces_are_short (analysis (as_defined own) p) laws r.trace.items reports.legal; is_table = reports.table; fits = fits; is_true = runs; text = told }
  own_table r (undecodable bytes) laws reports fits runs told = told
  own_table r (calls_ended bytes) laws reports fits runs told = told

  -- a stop with its refusal
  pub own_stop : (error : AnalyseError W) (halt : Halt) → AnalysisLaws (analysis (as_defined own) p) → IsErrorOf (analysis (as_defined own) p) error → Refuses own.word_text error halt → Stops (OwnComesTo own p image base) halt
  own_stop (stop.Undecodable at word trace) halt laws stops is = subst (λ h. Stops (OwnComesTo own p image base) h) (sym is) (trace.items, legal_traces_are_short (analysis (as_defined own) p) laws trace.items stops.0, stops)
  own_stop (stop.TooManyTargets at shown trace) (Refused (TooManyTargets a s)) laws stops is = (trace.items, shown, stops.0, legal_traces_are_short (analysis (as_defined own) p) laws trace.items stops.1.0, subst (λ n. IsStopOf (analysis (as_defined own) p) trace.items n (too_many shown stops.0)) (sym is.0) stops.1, is.1)
  own_stop (stop.TooManyTargets at shown trace) NoMemory laws stops is = tt
  own_stop (stop.TooManyTargets at shown trace) (Refused BadWords) laws stops is = absurd is
  own_stop (stop.TooManyTargets at shown trace) (Refused (CannotRead name)) laws stops is = absurd is
  own_stop (stop.TooManyTargets at shown trace) (Refused (TooLong name)) laws stops is = absurd is
  own_stop (stop.TooManyTargets at shown trace) (Refused (SpecRefused fault)) laws stops is = absurd is
  own_stop (stop.TooManyTargets at shown trace) (Refused (CodeRefused fault)) laws stops is = absurd is
  own_stop (stop.TooManyTargets at shown trace) (Refused (EntryRefused fault)) laws stops is = absurd is
  own_stop (stop.TooManyTargets at shown trace) (Refused CallsSpent) laws stops is = absurd is
  own_stop (stop.TooManyTargets at shown trace) (Refused (UndecodableAt a word)) laws stops is = absurd is
  own_stop (stop.TooManyTargets at shown trace) (Refused (TableRefused fault)) laws stops is = absurd is
  own_stop (stop.TooManyTargets at shown trace) (Refused (ClaimsRefused fault)) laws stops is = absurd is
  own_stop (stop.TooManyTargets at shown trace) (Refused (Rejected rejection)) laws stops is = absurd is
  own_stop stop.NoMemory halt laws stops is = subst (λ h. Stops (OwnComesTo own p image base) h) (sym is) tt

-- ---- checks and conversions

-- a text that no table has is refused
pub unread_stops : (step : Outcome → Type 0) (Is : TableError → Type 0) → ((error : TableError) → Is error → step (Err (table_refused error))) → (error : TableError) → (error ≡ reading.NoMemory) ⊎ Is error → Stops step (halt_of_table error)
unread_stops step Is by reading.NoMemory h = tt
unread_stops step Is by (reading.Form n) (inr is) = by (reading.Form n) is
unread_stops step Is by reading.Base (inr is) = by reading.Base is
unread_stops step Is by (reading.Code n) (inr is) = by (reading.Code n) is
unread_stops step Is by (reading.Form n) (inl e) = absurd cc
unread_stops step Is by reading.Base (inl e) = absurd cc
unread_stops step Is by (reading.Code n) (inl e) = absurd cc

pub gives_unread : {A : Type 0} (step : Outcome → Type 0) (Is : TableError → Type 0) (by : (error : TableError) → Is error → step (Err (table_refused error))) (seen : A → Answer) (error : TableError) → (error ≡ reading.NoMemory) ⊎ Is error
    → (r : Result A Halt) → IsErrAnd r (λ halt. halt ≡ halt_of_table error) → Gives step seen r
gives_unread step Is by seen error is (Err halt) same = subst (Stops step) (sym same) (unread_stops step Is by error is)
gives_unread step Is by seen error is (Ok found) same = absurd same

-- ---- by the verdict
module _ {W : Type 0} (word_text : ℕ → W → List ℕ) (Is : List ℕ → Type 0) where
  by_refusal : (x : Verdict W) (refusal : Refusal) → outcome_of word_text x ≡ Err refusal → ByVerdict word_text Is x (Err refusal)
  by_refusal v.Accepted refusal e = absurd cc
  by_refusal v.Entry refusal e = sym e
  by_refusal (v.Open at to) refusal e = sym e
  by_refusal (v.Undecodable at word) refusal e = sym e
  by_refusal (v.TooManyTargets at shown) refusal e = sym e
  by_refusal (v.Targets at) refusal e = sym e
  by_refusal (v.Use at) refusal e = sym e

  -- the refusal of a table that is not closed
  stops_by : (x : Verdict W) (halt : Halt) → IsClosedOr word_text x (Err halt) → Stops (ByVerdict word_text Is x) halt
  stops_by x (Refused refusal) h = by_refusal x (refusal_of refusal) h
  stops_by x NoMemory h = tt

  -- the text for one that is
  answers_by : (x : Verdict W) (answer : Answer) → x ≡ v.Accepted → IsTextOf Is answer → ByVerdict word_text Is x (Ok answer)
  answers_by x (text bytes) e h = subst (λ z. ByVerdict word_text Is z (Ok (text bytes))) (sym e) h
  answers_by x (undecodable bytes) e h = absurd h
  answers_by x (calls_ended bytes) e h = absurd h

  module _ (step : Outcome → Type 0) (x : Verdict W) (to : (found : Outcome) → ByVerdict word_text Is x found → step found) where
    pub gives_refusal : {A : Type 0} (seen : A → Answer) (halt : Halt) → IsClosedOr word_text x (Err halt) → (r : Result A Halt) → IsErrAnd r (λ h. h ≡ halt) → Gives step seen r
    gives_refusal seen halt h (Err other) same = subst (Stops step) (sym same) (stopped halt (stops_by x halt h))
      where
        stopped : (halt : Halt) → Stops (ByVerdict word_text Is x) halt → Stops step halt
        stopped (Refused refusal) k = to (Err (refusal_of refusal)) k
        stopped NoMemory k = tt
    gives_refusal seen halt h (Ok found) same = absurd same

    pub gives_answer : (answer : Answer) → x ≡ v.Accepted → IsTextOf Is answer → step (Ok answer)
    gives_answer answer e h = to (Ok answer) (answers_by x answer e h)

-- what is answered for the verdict of a check
pub checked_by : {W : Type 0} (word_text : ℕ → W → List ℕ) (x : Verdict W) (found : Outcome) → ByVerdict word_text (λ bytes. bytes ≡ accepted_line) x found → found ≡ outcome_of word_text x
checked_by word_text v.Accepted (Ok (text bytes)) h = ap (λ (xs : List ℕ). Ok (text xs)) h
checked_by word_text v.Accepted (Ok (undecodable bytes)) h = absurd h
checked_by word_text v.Accepted (Ok (calls_ended bytes)) h = absurd h
checked_by word_text v.Accepted (Err refusal) h = absurd h
checked_by word_text v.Entry found h = h
checked_by word_text (v.Open at to) found h = h
checked_by word_text (v.Undecodable at word) found h = h
checked_by word_text (v.TooManyTargets at shown) found h = h
checked_by word_text (v.Targets at) found h = h
checked_by word_text (v.Use at) found h = h

module _ {X E W N C : Type 0} (own : Own X E W N C) (p : Problem) where
  -- the verdict of a check
  pub own_verdict : {F : Type 0} (table : Table X) (r : Result (Verdict W) F) → TableFits (analysis (as_defined own) p) (listings own.view table)
      → IfOk r (λ x. x ≡ verdict_of (analysis (as_defined own) p) (listings own.view table)) → IfOk r (λ x. x ≡ v.Accepted → IsTrueOfRuns own.base own.elements p (listings own.view table)) → IfOk r (λ x. IsOwnVerdict own p table x)
  own_verdict table (Ok x) fits is runs = record { fits = fits; is = is; is_true = runs }
  own_verdict table (Err error) fits is runs = tt

  module _ (image : Image) (base bytes : List ℕ) (table : Table X) (x : Verdict W) (is_table : IsTableIn own.Reads own.word_in p.spec base image bytes (listings (λ x. x) table)) (is : IsOwnVerdict own p table x) where
    own_judged : IsOwnJudged own p image base bytes table
    own_judged = record { is_table = is_table; fits = is.fits; is_true = λ closed. is.is_true (is.is ∙ closed) }

    own_checked : (found : Outcome) → ByVerdict own.word_text (λ line. line ≡ accepted_line) x found → OwnJudges own p image base bytes found
    own_checked found by = subst (OwnJudges own p image base bytes) (sym (checked_by own.word_text x found by ∙ ap (outcome_of own.word_text) is.is)) (judged table own_judged)

    own_sliced : (at : ℕ) (cell : SliceCell) (found : Outcome) → ByVerdict own.word_text (IsSliceText p.spec (listings (λ x. x) table) at cell) x found → OwnSlices own p image base bytes at cell found
    own_sliced at cell found by = slices.judged table own_judged (subst (λ y. ByVerdict own.word_text (IsSliceText p.spec (listings (λ x. x) table) at cell) y found) is.is by)

    own_claimed : (K : Telling X) (list : List ℕ) (claims : List Claim) → read K (has_word image) p.spec list ≡ Ok claims → (found : Outcome)
        → ByVerdict own.word_text (λ lines. lines ≡ answers K (listings (λ x. x) table) claims) x found → OwnClaims own K p image base bytes list found
    own_claimed K list claims e found by = of_claims.judged table claims own_judged e (subst (λ y. ByVerdict own.word_text (λ lines. lines ≡ answers K (listings (λ x. x) table) claims) y found) is.is by)

    -- what is given for a table that is closed, and for one that is not
    pub checked_answer : (answer : Answer) → x ≡ v.Accepted → IsTextOf (λ line. line ≡ accepted_line) answer → OwnJudges own p image base bytes (Ok answer)
    checked_answer answer closed told = gives_answer own.word_text (λ line. line ≡ accepted_line) (OwnJudges own p image base bytes) x own_checked answer closed told

    pub checked_refusal : {A : Type 0} (seen : A → Answer) (halt : Halt) → IsClosedOr own.word_text x (Err halt) → (r : Result A Halt) → IsErrAnd r (λ h. h ≡ halt) → Gives (OwnJudges own p image base bytes) seen r
    checked_refusal seen halt rejects r same = gives_refusal own.word_text (λ line. line ≡ accepted_line) (OwnJudges own p image base bytes) x own_checked seen halt rejects r same

    pub sliced_answer : (at : ℕ) (cell : SliceCell) (answer : Answer) → x ≡ v.Accepted → IsTextOf (IsSliceText p.spec (listings (λ x. x) table) at cell) answer → OwnSlices own p image base bytes at cell (Ok answer)
    sliced_answer at cell answer closed told = gives_answer own.word_text (IsSliceText p.spec (listings (λ x. x) table) at cell) (OwnSlices own p image base bytes at cell) x (own_sliced at cell) answer closed told

    pub sliced_refusal : {A : Type 0} (at : ℕ) (cell : SliceCell) (seen : A → Answer) (halt : Halt) → IsClosedOr own.word_text x (Err halt) → (r : Result A Halt) → IsErrAnd r (λ h. h ≡ halt) → Gives (OwnSlices own p image base bytes at cell) seen r
    sliced_refusal at cell seen halt rejects r same = gives_refusal own.word_text (IsSliceText p.spec (listings (λ x. x) table) at cell) (OwnSlices own p image base bytes at cell) x (own_sliced at cell) seen halt rejects r same

    module _ (K : Telling X) (list : List ℕ) (claims : List Claim) (are_read : read K (has_word image) p.spec list ≡ Ok claims) where
      pub claimed_answer : (answer : Answer) → x ≡ v.Accepted → IsTextOf (λ lines. lines ≡ answers K (listings (λ x. x) table) claims) answer → OwnClaims own K p image base bytes list (Ok answer)
      claimed_answer answer closed told = gives_answer own.word_text (λ lines. lines ≡ answers K (listings (λ x. x) table) claims) (OwnClaims own K p image base bytes list) x (own_claimed K list claims are_read) answer closed told

      pub claimed_refusal : {A : Type 0} (seen : A → Answer) (halt : Halt) → IsClosedOr own.word_text x (Err halt) → (r : Result A Halt) → IsErrAnd r (λ h. h ≡ halt) → Gives (OwnClaims own K p image base bytes list) seen r
      claimed_refusal seen halt rejects r same = gives_refusal own.word_text (λ lines. lines ≡ answers K (listings (λ x. x) table) claims) (OwnClaims own K p image base bytes list) x (own_claimed K list claims are_read) seen halt rejects r same

-- claims that are read are of cells that are there
pub of_cells : {X : Type 0} (K : Telling X) (code : ℕ → Bool) (spec : Spec) (claims : List Claim) → Each (IsReadClaim K code spec) claims → Each (IsClaim K (state_type spec).fields) claims
of_cells K code spec [] are = tt
of_cells K code spec (claim ∷ claims) are = (are.0.of_cells, of_cells K code spec claims are.1)

-- a text that no claims have is refused
unclaimed_stops : (step : Outcome → Type 0) (want : Result (List Claim) ClaimError) → ((error : ClaimError) → want ≡ Err error → step (Err (claims_refused error))) → (error : ClaimError)
    → (want ≡ Err error) ⊎ (error ≡ claiming.NoMemory) → Stops step (halt_of_claims error)
unclaimed_stops step want by claiming.NoMemory h = tt
unclaimed_stops step want by (claiming.BadLine n) (inl e) = by (claiming.BadLine n) e
unclaimed_stops step want by (claiming.UnknownPlace n) (inl e) = by (claiming.UnknownPlace n) e
unclaimed_stops step want by (claiming.NoPart n) (inl e) = by (claiming.NoPart n) e
unclaimed_stops step want by (claiming.BadLine n) (inr e) = absurd cc
unclaimed_stops step want by (claiming.UnknownPlace n) (inr e) = absurd cc
unclaimed_stops step want by (claiming.NoPart n) (inr e) = absurd cc

pub gives_unclaimed : {A : Type 0} (step : Outcome → Type 0) (want : Result (List Claim) ClaimError) (by : (error : ClaimError) → want ≡ Err error → step (Err (claims_refused error))) (seen : A → Answer) (error : ClaimError)
    → (want ≡ Err error) ⊎ (error ≡ claiming.NoMemory) → (r : Result A Halt) → IsErrAnd r (λ halt. halt ≡ halt_of_claims error) → Gives step seen r
gives_unclaimed step want by seen error is (Err halt) same = subst (Stops step) (sym same) (unclaimed_stops step want by error is)
gives_unclaimed step want by seen error is (Ok found) same = absurd same

module _ {X E W N C : Type 0} (own : Own X E W N C) (image : Image) (base bytes : List ℕ) where
  -- a table that was read, written anew
  pub own_rewritten : (spec : Spec) (table : Table X) (ends : Endings W) (answer : Answer) → IsOpenTableIn own.Reads own.word_in spec base image bytes (listings (λ x. x) table) ends
      → IsTextOf (IsOpenTableText own.word_text (own.IsText spec) spec image base (listings (λ x. x) table) ends) answer → OwnRewrites own spec image base bytes (Ok answer)
  own_rewritten spec table ends (text new) is told = rewritten table ends new is told
  own_rewritten spec table ends (undecodable new) is told = absurd told
  own_rewritten spec table ends (calls_ended new) is told = absurd told

  -- a text that no table has
  pub refused_unread : {A : Type 0} (spec : Spec) (error : TableError) → (error ≡ reading.NoMemory) ⊎ IsErrorIn own.Reads own.word_in spec base image bytes error → (r : Result A Halt) → IsErrAnd r (λ h. h ≡ halt_of_table error) → IfErr r (Stops (OwnRefuses own spec image base bytes))
  refused_unread spec error is (Err halt) same = subst (Stops (OwnRefuses own spec image base bytes)) (sym same) (unread_stops (OwnRefuses own spec image base bytes) (IsErrorIn own.Reads own.word_in spec base image bytes) (λ e h. faulty h) error is)
  refused_unread spec error is (Ok found) same = absurd same

  -- a text that is refused
  pub gives_refused : {A : Type 0} (spec : Spec) (step : Outcome → Type 0) → ((refusal : Refusal) → IsOwnRefused own spec image base bytes refusal → step (Err refusal)) → (seen : A → Answer) (halt : Halt)
      → Stops (OwnRefuses own spec image base bytes) halt → (r : Result A Halt) → IsErrAnd r (λ h. h ≡ halt) → Gives step seen r
  gives_refused spec step by seen halt stops (Err other) same = subst (Stops step) (sym same) (stopped halt stops)
    where
      stopped : (halt : Halt) → Stops (OwnRefuses own spec image base bytes) halt → Stops step halt
      stopped (Refused refusal) k = by (refusal_of refusal) k
      stopped NoMemory k = tt
  gives_refused spec step by seen halt stops (Ok found) same = absurd same

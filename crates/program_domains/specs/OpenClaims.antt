-- What claims of a table come to, in a domain, where blocks may be left open.
use Rattle.std.specs.Prelude.{◌≡◌, ℕ, IsTrue, List, Ok, Err}
use Rattle.base_trait.specs.Lists.{Each}
use Rattle.semantics_values.specs.States.{State}
use Rattle.semantics.specs.Runs as r
use Rattle.code_image.specs.Image.{Image}
use Rattle.fixpoint_theory.specs.Table.{Listings}
use Rattle.fixpoint_theory.specs.declared.verdict.Verdict.{Verdict}
use Rattle.fixpoint_open_tables.specs.Endings.{Endings}
use Rattle.text_faults.specs.declared.table_error.TableError.{TableError}
use Rattle.text_table_reader.specs.Tables.{IsErrorIn, IsOpenTableIn}
use Rattle.analysis_transfer_laws.specs.OpenRuns.{IsClosedBefore}
use Rattle.analysis_transfer_laws.specs.Problem.{Problem}
use Rattle.analysis_transfer_laws.specs.Runs.{Begins, run_of}
use Rattle.text_faults.specs.declared.claim_error.ClaimError.{ClaimError}
use Rattle.analysis_query_laws.specs.Answers.{answer}
use Rattle.analysis_query_laws.specs.Claims.{Claim, IsTrueOf, address_of}
use Rattle.text_claims.specs.Answers.{answers}
use Rattle.text_claims.specs.Reading.{has_word, read}
use Rattle.program_common.specs.Outcome.{Outcome, claims_refused, table_refused}
use Rattle.program_domains.specs.Closed.{ByVerdict}
use Rattle.program_domains.specs.Domains.{DomainOf}
use Rattle.program_domains.specs.OpenChecks.{IsOpenAccepted, IsOpenJudged}
use Rattle.program_domains.specs.Until.{IsMarked, Marked}

-- The claim is true of every state that the runs of a problem have at its address, as long as the states before are at no address that is left open: from every
-- state that the entry describes, after any number of steps, under every bound on turns.
abbrev pub IsTrueOfOpenStates : {W : Type 0} → Problem → Endings W → Claim → Type 0
IsTrueOfOpenStates p ends claim =
    (d n : ℕ) (first : State) → Begins p first → (run_of p d n first).stop ≡ r.Stop.bound → IsClosedBefore p ends d n first → (run_of p d n first).state.pc ≡ address_of claim
    → IsTrueOf (run_of p d n first).state claim

module _ {E W N C : Type 0} (domain : DomainOf E W N C) (p : Problem) where
  -- The outcome for the texts of a table and of claims: the first fault of the table, or else the first of the claims; where the table is not accepted with its
  -- endings, what its check comes to; else a line for each claim, behind the line `until open` where some address is left open.
  pub data ClaimsOpen (image : Image) (base bytes list : List ℕ) : Outcome → Type 0 where
    refused : {error : TableError} → IsErrorIn domain.Reads domain.word_in p.spec base image bytes error → ClaimsOpen image base bytes list (Err (table_refused error))
    unread : {error : ClaimError} (table : Listings E) (ends : Endings W) → IsOpenTableIn domain.Reads domain.word_in p.spec base image bytes table ends
        → read domain.telling (has_word image) p.spec list ≡ Err error → ClaimsOpen image base bytes list (Err (claims_refused error))
    judged : {outcome : Outcome} (table : Listings E) (ends : Endings W) (verdict : Verdict W) (claims : List Claim) → IsOpenJudged domain p image base bytes table ends verdict
        → read domain.telling (has_word image) p.spec list ≡ Ok claims → ByVerdict domain.word_text (Marked ends (λ text. text ≡ answers domain.telling table claims)) verdict outcome
        → ClaimsOpen image base bytes list outcome

  -- The text has a line, yes or open, for each claim that was read, as a table that is accepted with its endings answers it: it is true of the runs of the machine
  -- from every state that the entry describes, up to and with the first state at an address that is left open. So each claim whose line is yes is true of every state
  -- that these runs have at its address until then.
  pub record HoldsOpenClaims (image : Image) (base bytes list text : List ℕ) : Type 0 where
    pub accepted : IsOpenAccepted domain p image base bytes
    pub claims : List Claim
    pub are_read : read domain.telling (has_word image) p.spec list ≡ Ok claims
    pub written : IsMarked accepted.ends (answers domain.telling accepted.table claims) text
    pub hold : Each (λ claim. IsTrue (answer domain.telling accepted.table claim) → IsTrueOfOpenStates p accepted.ends claim) claims

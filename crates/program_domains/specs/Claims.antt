-- What claims of a table come to, in a domain.
use Rattle.std.specs.Prelude.{◌≡◌, ℕ, IsTrue, List, Ok, Err}
use Rattle.base_trait.specs.Lists.{Each}
use Rattle.semantics_values.specs.States.{State}
use Rattle.semantics.specs.Runs as r
use Rattle.code_image.specs.Image.{Image}
use Rattle.fixpoint_theory.specs.Table.{Listings}
use Rattle.fixpoint_theory.specs.Verdicts.{verdict_of}
use Rattle.text_table_reader.specs.Tables.{IsTableIn}
use Rattle.analysis_transfer_laws.specs.Problem.{Problem}
use Rattle.analysis_transfer_laws.specs.Runs.{Begins, run_of}
use Rattle.text_faults.specs.declared.claim_error.ClaimError.{ClaimError}
use Rattle.analysis_query_laws.specs.Answers.{answer}
use Rattle.analysis_query_laws.specs.Claims.{Claim, IsTrueOf, address_of}
use Rattle.text_claims.specs.Answers.{answers}
use Rattle.text_claims.specs.Reading.{has_word, read}
use Rattle.program_common.specs.Outcome.{Outcome, Refusal, claims_refused}
use Rattle.program_domains.specs.Analyses.{analysis}
use Rattle.program_domains.specs.Checks.{IsAccepted, IsJudged}
use Rattle.program_domains.specs.Closed.{ByVerdict}
use Rattle.program_domains.specs.Domains.{DomainOf}
use Rattle.program_domains.specs.Refusals.{IsRefused}

-- The claim is true of every state that the runs of a problem have at its address: from every state that the entry describes, after any number of
-- steps, under every bound on turns.
abbrev pub IsTrueOfStates : Problem → Claim → Type 0
IsTrueOfStates p claim = (d n : ℕ) (first : State) → Begins p first → (run_of p d n first).stop ≡ r.Stop.bound → (run_of p d n first).state.pc ≡ address_of claim → IsTrueOf (run_of p d n first).state claim

module _ {E W N C : Type 0} (domain : DomainOf E W N C) (p : Problem) where
  -- The outcome for the texts of a table and of claims: the first fault of the table or its first block that is left open, or else the first of the claims; where the table is not closed, what
  -- its check comes to; else a line for each claim.
  pub data Claims (image : Image) (base bytes list : List ℕ) : Outcome → Type 0 where
    refused : {refusal : Refusal} → IsRefused domain p.spec image base bytes refusal → Claims image base bytes list (Err refusal)
    unread : {error : ClaimError} (table : Listings E) → IsTableIn domain.Reads domain.word_in p.spec base image bytes table → read domain.telling (has_word image) p.spec list ≡ Err error
        → Claims image base bytes list (Err (claims_refused error))
    judged : {outcome : Outcome} (table : Listings E) (claims : List Claim) → IsJudged domain p image base bytes table → read domain.telling (has_word image) p.spec list ≡ Ok claims
        → ByVerdict domain.word_text (λ text. text ≡ answers domain.telling table claims) (verdict_of (analysis domain p) table) outcome → Claims image base bytes list outcome

  -- The text has a line, yes or open, for each claim that was read, as a table that is accepted answers it: the table is closed, and true of the runs of
  -- the machine from every state that the entry describes. So each claim whose line is yes is true of every state that these runs have at its address.
  pub record HoldsClaims (image : Image) (base bytes list text : List ℕ) : Type 0 where
    pub accepted : IsAccepted domain p image base bytes
    pub claims : List Claim
    pub are_read : read domain.telling (has_word image) p.spec list ≡ Ok claims
    pub written : text ≡ answers domain.telling accepted.table claims
    pub hold : Each (λ claim. IsTrue (answer domain.telling accepted.table claim) → IsTrueOfStates p claim) claims

-- What claims come to with the elements of the code.
use Rattle.std.specs.Prelude.{◌≡◌, ℕ, List, Ok, Err}
use Rattle.code_image.specs.Image.{Image}
use Rattle.fixpoint_theory.specs.Verdicts.{verdict_of}
use Rattle.fixpoint_theory.specs.Views.{listings}
use Rattle.fixpoint_theory.specs.declared.table.Table.{Table}
use Rattle.text_faults.specs.declared.claim_error.ClaimError.{ClaimError}
use Rattle.analysis_query_laws.specs.Answers.{Telling}
use Rattle.analysis_query_laws.specs.Claims.{Claim}
use Rattle.text_claims.specs.Answers.{answers}
use Rattle.text_claims.specs.Reading.{has_word, read}
use Rattle.text_table_reader.specs.Tables.{IsTableIn}
use Rattle.analysis_transfer_laws.specs.Problem.{Problem}
use Rattle.program_common.specs.Outcome.{Outcome, Refusal, claims_refused}
use Rattle.program_domains.specs.Analyses.{analysis}
use Rattle.program_domains.specs.Closed.{ByVerdict}
use Rattle.program_domain_tasks.specs.Own.{IsOwnJudged, IsOwnRefused, Own, as_defined}

-- Elements tell this of claims.
module _ {X E W N C : Type 0} (own : Own X E W N C) (K : Telling X) (p : Problem) where
  pub data OwnClaims (image : Image) (base bytes list : List ℕ) : Outcome → Type 0 where
    refused : {refusal : Refusal} → IsOwnRefused own p.spec image base bytes refusal → OwnClaims image base bytes list (Err refusal)
    unread : {error : ClaimError} (table : Table X) → IsTableIn own.Reads own.word_in p.spec base image bytes (listings (λ x. x) table) → read K (has_word image) p.spec list ≡ Err error
        → OwnClaims image base bytes list (Err (claims_refused error))
    judged : {outcome : Outcome} (table : Table X) (claims : List Claim) → IsOwnJudged own p image base bytes table → read K (has_word image) p.spec list ≡ Ok claims
        → ByVerdict own.word_text (λ text. text ≡ answers K (listings (λ x. x) table) claims) (verdict_of (analysis (as_defined own) p) (listings own.view table)) outcome
        → OwnClaims image base bytes list outcome

-- No first fault of claims is want of memory.
use Rattle.std.proofs.Common.{◌≡◌, ◌≢◌, ◌∙◌, ℕ, ◌+◌, Bool, List, [], ◌∷◌, Option, Some, None, Result, Ok, Err, ap, subst}
use Rattle.spec_ir.specs.Specification.{Spec}
use Rattle.state_text.specs.Lines.{lines}
use Rattle.analysis_query_laws.specs.Answers.{Telling}
use Rattle.analysis_query_laws.specs.Claims.{Claim}
use Rattle.text_faults.specs.declared.claim_error.ClaimError.{ClaimError}
use Rattle.text_faults.specs.declared.claim_error.ClaimError.TheVariants.{NoMemory}
use Rattle.text_claims.specs.declared.kinds.ClaimFault.{ClaimFault}
use Rattle.text_claims.specs.declared.kinds.ClaimFault.TheVariants as fault
use Rattle.text_claims.specs.Meaning.{Meant, bad, meant, nothing, says, unknown}
use Rattle.text_claims.specs.Reading.{fault_of, goes_on, read, read_from, with_claim, with_line}

-- Claims, or an error that has a line.
abbrev IsTold : Result (List Claim) ClaimError → Type 0
IsTold (Err NoMemory) = ⊥
IsTold _ = Unit {0}

goes_on_told : (first : Result (List Claim) ClaimError) (rest : List Claim → Result (List Claim) ClaimError) → IsTold first → ((claims : List Claim) → IsTold (rest claims)) → IsTold (goes_on first rest)
goes_on_told (Ok claims) rest p q = q claims
goes_on_told (Err error) rest p q = p

module _ {X : Type 0} (K : Telling X) (code : ℕ → Bool) where
  claim_told : (n : ℕ) (claims : List Claim) (c : Claim) (wrong : Option ClaimFault) → IsTold (with_claim K code n claims c wrong)
  claim_told n claims c None = tt
  claim_told n claims c (Some fault.Place) = tt
  claim_told n claims c (Some fault.Part) = tt

  line_told : (n : ℕ) (line : Meant) (claims : List Claim) → IsTold (with_line K code n line claims)
  line_told n nothing claims = tt
  line_told n bad claims = tt
  line_told n unknown claims = tt
  line_told n (says c) claims = claim_told n claims c (fault_of K code c)

  module _ (spec : Spec) where
    from_told : (n : ℕ) (claims : List Claim) (ls : List (List ℕ)) → IsTold (read_from K code spec n claims ls)
    from_told n claims [] = tt
    from_told n claims (line ∷ ls) =
        goes_on_told (with_line K code n (meant spec line) claims) (λ more. read_from K code spec (n + 1) more ls) (line_told n (meant spec line) claims) (λ more. from_told (n + 1) more ls)

    pub claims_told : (bytes : List ℕ) (error : ClaimError) → read K code spec bytes ≡ Err error → error ≢ NoMemory
    claims_told bytes error is none = subst IsTold (is ∙ ap (λ (e : ClaimError). Err e) none) (from_told 1 [] (lines bytes))

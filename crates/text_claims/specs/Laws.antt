-- What holds of claims that are read.
use Rattle.std.specs.Prelude.{◌≡◌, ℕ, Bool, List, Ok, IsTrue}
use Rattle.base_trait.specs.Lists.{Each}
use Rattle.spec_ir.specs.Specification.{Spec}
use Rattle.domain_laws.specs.States.{state_type}
use Rattle.analysis_query_laws.specs.Answers.{Telling}
use Rattle.analysis_query_laws.specs.Claims.{Claim, address_of}
use Rattle.analysis_query_laws.specs.Laws.{IsClaim}
use Rattle.text_claims.specs.Reading.{read}

-- It is one of which elements tell, of cells that the states have, at the address of a code word.
pub record IsReadClaim {X : Type 0} (K : Telling X) (code : ℕ → Bool) (spec : Spec) (claim : Claim) : Type 0 where
  pub of_cells : IsClaim K (state_type spec).fields claim
  pub at_code : IsTrue (code (address_of claim))

abbrev pub ReadClaimsFit : {X : Type 0} → Telling X → Type 0
ReadClaimsFit K = (code : ℕ → Bool) (spec : Spec) (bytes : List ℕ) (claims : List Claim) → read K code spec bytes ≡ Ok claims → Each (IsReadClaim K code spec) claims

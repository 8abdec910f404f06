-- The claims of a text, or its first faulty line.
use Rattle.std.specs.Prelude.{◌≡◌, ◌⊎◌, ℕ, ◌+◌, Bool, List, [], ◌∷◌, ◌++◌, Option, Some, None, Result, Ok, Err, Vec, ◌&&◌, not, is_some, map, if◌then◌else◌}
use Rattle.std.specs.List.{list_all}
use Rattle.std.specs.declared.alloc.Global.{Global}
use Rattle.spec_ir.specs.Specification.{Spec}
use Rattle.code_image.specs.Image.{Image, code_at}
use Rattle.state_text.specs.Lines.{lines}
use Rattle.analysis_query_laws.specs.Answers.{Telling, column_of}
use Rattle.analysis_query_laws.specs.Claims.{Claim, Multiple, address_of, differs, never, range, sum}
use Rattle.analysis_claims.specs.declared.claim.Claim.{Claim as ClaimOf}
use Rattle.analysis_claims.specs.Tables.{claim}
use Rattle.text_faults.specs.declared.claim_error.ClaimError.{ClaimError}
use Rattle.text_faults.specs.declared.claim_error.ClaimError.TheVariants.{BadLine, UnknownPlace, NoPart, NoMemory}
use Rattle.text_claims.specs.declared.kinds.ClaimFault.{ClaimFault}
use Rattle.text_claims.specs.declared.kinds.ClaimFault.TheVariants as fault
use Rattle.text_claims.specs.Meaning.{Meant, nothing, bad, unknown, says, meant}

abbrev pub error_at : ℕ → ClaimFault → ClaimError
error_at n fault.Place = UnknownPlace n
error_at n fault.Part = NoPart n

abbrev pub unless_told : Bool → Option ClaimFault
unless_told told = if told then None else Some fault.Part

-- the addresses at which an image has a word
abbrev pub has_word : Image → ℕ → Bool
has_word image at = is_some (code_at image at)

-- what is to be done with claims that were read
abbrev pub goes_on : Result (List Claim) ClaimError → (List Claim → Result (List Claim) ClaimError) → Result (List Claim) ClaimError
goes_on (Err e) rest = Err e
goes_on (Ok claims) rest = rest claims

module _ {X : Type 0} (K : Telling X) where
  abbrev pub is_tracked : Multiple → Bool
  is_tracked p = is_some (column_of K.tracked p.1 p.2)

  abbrev pub are_tracked : List Multiple → Bool
  are_tracked parts = list_all is_tracked parts

  -- where elements tell of sums, the cells of one have to be tracked; and of such a claim some part has to tell
  abbrev pub part_fault : Claim → Option ClaimFault
  part_fault (range at field key lo hi) = unless_told K.takes_ranges
  part_fault (differs at field key v) = unless_told K.takes_ranges
  part_fault (sum at c parts) = if K.takes_sums && not (are_tracked parts) then Some fault.Place else unless_told K.takes_sums
  part_fault (never at) = None

-- `code` tells the addresses of code words
module _ {X : Type 0} (K : Telling X) (code : ℕ → Bool) where
  -- What is wrong with a claim of cells that the states have.
  abbrev pub fault_of : Claim → Option ClaimFault
  fault_of c = if code (address_of c) then part_fault K c else Some fault.Place

  abbrev pub with_claim : ℕ → List Claim → Claim → Option ClaimFault → Result (List Claim) ClaimError
  with_claim n claims c None = Ok (claims ++ c ∷ [])
  with_claim n claims c (Some f) = Err (error_at n f)

  -- claims with that of line number n, which says this; or its fault
  abbrev pub with_line : ℕ → Meant → List Claim → Result (List Claim) ClaimError
  with_line n nothing claims = Ok claims
  with_line n bad claims = Err (BadLine n)
  with_line n unknown claims = Err (UnknownPlace n)
  with_line n (says c) claims = with_claim n claims c (fault_of c)

  module _ (spec : Spec) where
    -- the claims of lines from number n on, behind others; or their first fault
    abbrev pub read_from : ℕ → List Claim → List (List ℕ) → Result (List Claim) ClaimError
    read_from n claims [] = Ok claims
    read_from n claims (line ∷ ls) = goes_on (with_line n (meant spec line) claims) (λ more. read_from (n + 1) more ls)

    -- The claims of a text, or its first faulty line.
    abbrev pub read : List ℕ → Result (List Claim) ClaimError
    read bytes = read_from 1 [] (lines bytes)

-- claims as plain data
abbrev pub claims_of : Vec ClaimOf Global → List Claim
claims_of claims = map claim claims.items

-- The claims are the definition's, or the error is, or memory ran out.
abbrev pub Agrees : Result (Vec ClaimOf Global) ClaimError → Result (List Claim) ClaimError → Type 0
Agrees (Ok claims) want = want ≡ Ok (claims_of claims)
Agrees (Err e) want = (want ≡ Err e) ⊎ (e ≡ NoMemory)

-- What is found with a line more is the definition's, or the error is, or memory ran out.
abbrev pub Gives : Result (Unit {0}) ClaimError → List Claim → Result (List Claim) ClaimError → Type 0
Gives (Ok u) claims want = want ≡ Ok claims
Gives (Err e) claims want = (want ≡ Err e) ⊎ (e ≡ NoMemory)

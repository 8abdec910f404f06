-- What is told of claims, where elements are seen as others.
use Rattle.std.proofs.Common.{◌≡◌, ◌∙◌, ℕ, ◌+◌, Bool, List, [], ◌∷◌, ◌++◌, Option, Some, None, option_map, refl, ap}
use Rattle.std.specs.Prelude.{Result, Ok, Err}
use Rattle.std.specs.Ordering.{nat_cmp}
use Rattle.std.specs.BTreeMap.{get}
use Rattle.spec_ir.specs.Specification.{Spec}
use Rattle.fixpoint_theory.specs.Views.{listing, listings}
use Rattle.fixpoint_theory.specs.declared.table.Block.{Block}
use Rattle.fixpoint_theory.specs.declared.table.Table.{Table}
use Rattle.state_text.specs.Lines.{lines}
use Rattle.text_faults.specs.declared.claim_error.ClaimError.{ClaimError}
use Rattle.analysis_query_laws.specs.Answers.{Telling, answer, answer_at}
use Rattle.analysis_query_laws.specs.Claims.{Claim, address_of, differs, never, range, sum}
use Rattle.analysis_claims.specs.Seen.{seen_by}
use Rattle.text_claims.specs.Answers.{answer_line, answers}
use Rattle.text_claims.specs.Meaning.{Meant, nothing, bad, unknown, says, meant}
use Rattle.text_claims.specs.Reading.{fault_of, goes_on, read, read_from, with_claim, with_line}

either : {A : Type 0} (P : Option A → Type 0) → P None → ((x : A) → P (Some x)) → (o : Option A) → P o
either P none some None = none
either P none some (Some x) = some x

module _ {X E : Type 0} (view : X → E) (L : Telling E) where
  abbrev K : Telling X
  K = seen_by view L

  -- ---- claims that are read
  module _ (code : ℕ → Bool) where
    fault_seen : (c : Claim) → fault_of K code c ≡ fault_of L code c
    fault_seen (range at field key lo hi) = refl
    fault_seen (sum at c parts) = refl
    fault_seen (differs at field key v) = refl
    fault_seen (never at) = refl

    claim_seen : (n : ℕ) (claims : List Claim) (c : Claim) → with_claim K code n claims c (fault_of L code c) ≡ with_claim L code n claims c (fault_of L code c)
    claim_seen n claims c = either (λ o. with_claim K code n claims c o ≡ with_claim L code n claims c o) refl (λ f. refl) (fault_of L code c)

    line_seen : (n : ℕ) (m : Meant) (claims : List Claim) → with_line K code n m claims ≡ with_line L code n m claims
    line_seen n nothing claims = refl
    line_seen n bad claims = refl
    line_seen n unknown claims = refl
    line_seen n (says c) claims = ap (with_claim K code n claims c) (fault_seen c) ∙ claim_seen n claims c

    module _ (spec : Spec) where
      from_seen : (n : ℕ) (claims : List Claim) (ls : List (List ℕ)) → read_from K code spec n claims ls ≡ read_from L code spec n claims ls
      from_seen n claims [] = refl
      from_seen n claims (line ∷ ls) =
          ap (λ r. goes_on r (λ more. read_from K code spec (n + 1) more ls)) (line_seen n (meant spec line) claims)
          ∙ behind (with_line L code n (meant spec line) claims) (λ more. from_seen (n + 1) more ls)
        where
          behind : (r : Result (List Claim) ClaimError) → ((more : List Claim) → read_from K code spec (n + 1) more ls ≡ read_from L code spec (n + 1) more ls)
              → goes_on r (λ more. read_from K code spec (n + 1) more ls) ≡ goes_on r (λ more. read_from L code spec (n + 1) more ls)
          behind (Err e) later = refl
          behind (Ok more) later = later more

      pub read_seen : (bytes : List ℕ) → read K code spec bytes ≡ read L code spec bytes
      read_seen bytes = from_seen 1 [] (lines bytes)

  -- ---- answers
  told_seen : (o : Option (Block X)) (c : Claim) → answer_at K (option_map (listing (λ x. x)) o) c ≡ answer_at L (option_map (listing view) o) c
  told_seen None c = refl
  told_seen (Some b) (range at field key lo hi) = refl
  told_seen (Some b) (sum at c parts) = refl
  told_seen (Some b) (differs at field key v) = refl
  told_seen (Some b) (never at) = refl

  pub answers_seen : (t : Table X) (claims : List Claim) → answers K (listings (λ x. x) t) claims ≡ answers L (listings view t) claims
  answers_seen t [] = refl
  answers_seen t (c ∷ claims) =
      ap (λ told. answer_line told ++ answers K (listings (λ x. x) t) claims) (told_seen (get nat_cmp t.blocks (address_of c)) c)
      ∙ ap (λ (lines : List ℕ). answer_line (answer L (listings view t) c) ++ lines) (answers_seen t claims)

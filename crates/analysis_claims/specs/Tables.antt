-- Claims of tables of the code.
use Rattle.std.specs.Prelude.{◌≡◌, ℕ, Some, IsTrue}
use Rattle.base_trait.specs.Algebra.{Algebra}
use Rattle.semantics_values.specs.States.{State}
use Rattle.semantics.specs.Runs as r
use Rattle.fixpoint_theory.specs.Code.{is_code}
use Rattle.fixpoint_theory.specs.Elements.{Elements}
use Rattle.fixpoint_theory.specs.Table.{Listing}
use Rattle.fixpoint_theory.specs.Views.{listings}
use Rattle.fixpoint_theory.specs.declared.table.Table.{Table}
use Rattle.domain_laws.specs.States.{state_type}
use Rattle.analysis_transfer_laws.specs.Problem.{Problem}
use Rattle.analysis_transfer_laws.specs.Runs.{Begins, IsTrueOfRuns, run_of}
use Rattle.analysis_query_laws.specs.Answers.{Telling, answer}
use Rattle.analysis_query_laws.specs.Claims as plain
use Rattle.analysis_query_laws.specs.Claims.{IsTrueOf, address_of}
use Rattle.analysis_query_laws.specs.Laws.{IsClaim, TellTruly}
use Rattle.analysis_claims.specs.declared.claim.Claim.{Claim}
use Rattle.analysis_claims.specs.declared.claim.Claim.TheVariants.{Differs, Never, Range, Sum}

-- a `Claim` as plain data
abbrev pub claim : Claim → plain.Claim
claim (Range at field key lo hi) = plain.range at field key lo hi
claim (Sum at c parts) = plain.sum at c parts.items
claim (Differs at field key value) = plain.differs at field key value
claim (Never at) = plain.never at

module _ {X E : Type 0} (view : X → E) (D : Elements E State) (K : Telling X) where
  -- A yes of a table that is true of every run is true of every state at the claim's address, in every run from a state that the entry describes.
  abbrev pub YesIsTrue : {W N C : Type 0} → Algebra W N C → Type 0
  YesIsTrue B =
      (p : Problem) (t : Table X) (claim : plain.Claim) → IsTrueOfRuns B D p (listings view t) → ((at : ℕ) (b : Listing E) → listings view t at ≡ Some b → D.fits b.elem)
      → TellTruly (state_type p.spec).fields (λ x. D.fits (view x)) (λ x. D.holds (view x)) K → IsClaim K (state_type p.spec).fields claim
      → IsTrue (is_code p.addresses (address_of claim)) → IsTrue (answer K (listings (λ x. x) t) claim)
      → (d n : ℕ) (first : State) → Begins p first → (run_of p d n first).stop ≡ r.Stop.bound → (run_of p d n first).state.pc ≡ address_of claim → IsTrueOf (run_of p d n first).state claim

-- A yes of a table that is true of every run is true of the states at its address.
use Rattle.std.proofs.Common.{◌≡◌, ◌∙◌, List, Option, Some, None, IsTrue, refl, sym, subst}
use Rattle.std.specs.Prelude.{IsSomeAnd}
use Rattle.base_trait.specs.Algebra.{Algebra}
use Rattle.base_trait.proofs.Tests.{and_parts}
use Rattle.semantics_values.specs.States.{State}
use Rattle.fixpoint_theory.specs.Code.{is_code}
use Rattle.fixpoint_theory.specs.Elements.{Elements}
use Rattle.fixpoint_theory.specs.Table.{Listing}
use Rattle.domain_laws.specs.declared.field.Field.{Field}
use Rattle.analysis_transfer_laws.specs.Runs.{run_of}
use Rattle.analysis_query_laws.specs.Answers.{Telling, answer_at, form_of, told}
use Rattle.analysis_query_laws.specs.Claims.{Claim, IsTrueOf, address_of, differs, never, range, sum}
use Rattle.analysis_query_laws.specs.Laws.{ClaimsHold, IsClaim, TellTruly}
use Rattle.analysis_query_laws.proofs.Forms.{forms_are_sums}

module _ {X : Type 0} (fits : X → Type 0) (holds : X → State → Type 0) (K : Telling X) (fields : List Field) (truly : TellTruly fields fits holds K) where
  told_true : (x : X) (s : State) (claim : Claim) → fits x → holds x s → IsClaim K fields claim → IsTrue (told K x claim) → IsTrueOf s claim
  told_true x s (range at field key lo hi) fit held is h =
      let parts = and_parts K.takes_ranges (K.in_range x field key lo hi) h in
      truly.ranges x s field key lo hi parts.0 fit held is parts.1
  told_true x s (sum at c multiples) fit held is h =
      let parts = and_parts K.takes_sums (K.meets x (form_of K.tracked c multiples)) h in
      let form = forms_are_sums K.tracked c multiples s is in
      sym form.1 ∙ truly.sums x s (form_of K.tracked c multiples) parts.0 fit held form.0 parts.1
  told_true x s (differs at field key v) fit held is h =
      let parts = and_parts K.takes_ranges (K.excludes x field key v) h in
      truly.others x s field key v parts.0 fit held is parts.1
  told_true x s (never at) fit held is h = cc

  -- of a block, if there is one
  pub listed_true : (o : Option (Listing X)) (s : State) (claim : Claim) → ((b : Listing X) → o ≡ Some b → fits b.elem) → IsSomeAnd o (λ b. holds b.elem s) → IsClaim K fields claim → IsTrue (answer_at K o claim)
      → IsTrueOf s claim
  listed_true None s claim fit held is h = absurd held
  listed_true (Some b) s claim fit held is h = told_true b.elem s claim (fit b refl) held is h

pub claims_hold : {E W N C : Type 0} (B : Algebra W N C) (D : Elements E State) (K : Telling E) → ClaimsHold D K B
claims_hold B D K p t claim is fit truly claim_is code h d n first begins stop pc =
    let s = (run_of p d n first).state in
    let holds = is.holds d n first begins stop (subst (λ a. IsTrue (is_code p.addresses a)) (sym pc) code) in
    listed_true D.fits D.holds K _ truly (t (address_of claim)) s claim (fit (address_of claim)) (subst (λ a. IsSomeAnd (t a) (λ b. D.holds b.elem s)) pc holds) claim_is h

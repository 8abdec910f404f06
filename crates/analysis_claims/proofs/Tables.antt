-- A yes of a table that is true of every run is true of every state at its address.
use Rattle.std.proofs.Common.{◌≡◌, Option, Some, None, IsTrue, refl, sym, subst}
use Rattle.std.specs.Prelude.{IsSomeAnd, option_map}
use Rattle.std.specs.Ordering.{nat_cmp}
use Rattle.std.specs.BTreeMap.{get}
use Rattle.base_trait.specs.Algebra.{Algebra}
use Rattle.semantics_values.specs.States.{State}
use Rattle.fixpoint_theory.specs.Code.{is_code}
use Rattle.fixpoint_theory.specs.Elements.{Elements}
use Rattle.fixpoint_theory.specs.Table.{Listing}
use Rattle.fixpoint_theory.specs.Views.{listing, listings}
use Rattle.fixpoint_theory.specs.declared.table.Block.{Block}
use Rattle.analysis_transfer_laws.specs.Runs.{run_of}
use Rattle.analysis_query_laws.specs.Answers.{Telling}
use Rattle.analysis_query_laws.specs.Claims.{address_of}
use Rattle.analysis_query_laws.proofs.Holding.{listed_true}
use Rattle.analysis_claims.specs.Tables.{YesIsTrue}

module _ {X E : Type 0} (view : X → E) (D : Elements E State) where
  own_holds : (o : Option (Block X)) (s : State) → IsSomeAnd (option_map (listing view) o) (λ b. D.holds b.elem s) → IsSomeAnd (option_map (listing (λ x. x)) o) (λ b. D.holds (view b.elem) s)
  own_holds None s h = absurd h
  own_holds (Some b) s h = h

  own_fits : (o : Option (Block X)) → ((b : Listing E) → option_map (listing view) o ≡ Some b → D.fits b.elem) → (b : Listing X) → option_map (listing (λ x. x)) o ≡ Some b → D.fits (view b.elem)
  own_fits None h b is = cc
  own_fits (Some x) h b is = let same : x.elem ≡ b.elem = cc in subst (λ e. D.fits (view e)) same (h (listing view x) refl)

  pub yes_is_true : {W N C : Type 0} (B : Algebra W N C) (K : Telling X) → YesIsTrue view D K B
  yes_is_true B K p t claim is fit truly claim_is code h d n first begins stop pc =
      let s = (run_of p d n first).state in
      let at = address_of claim in
      let holds = subst (λ a. IsSomeAnd (listings view t a) (λ b. D.holds b.elem s)) pc (is.holds d n first begins stop (subst (λ a. IsTrue (is_code p.addresses a)) (sym pc) code)) in
      listed_true (λ x. D.fits (view x)) (λ x. D.holds (view x)) K _ truly (listings (λ x. x) t at) s claim (own_fits (get nat_cmp t.blocks at) (fit at)) (own_holds (get nat_cmp t.blocks at) s holds) claim_is h

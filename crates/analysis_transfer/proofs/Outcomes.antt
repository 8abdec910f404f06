-- Outcomes of the code, from those of its parts.
use Rattle.std.proofs.Common.{◌≡◌, ℕ, List, [], Option, Some, None, Result, Ok, Err, IfOk, refl, sym, ap, subst, ◌∙◌}
use Rattle.base_trait.specs.Algebra.{Algebra}
use Rattle.base_trait.specs.Uses.{Seen}
use Rattle.semantics_values.specs.States.{State}
use Rattle.abstract_value_laws.specs.Abs.{Abs}
use Rattle.fixpoint_theory.specs.Elements.{Elements}
use Rattle.fixpoint_theory.specs.Outcome.{IfPost, IsDecoded, Outcome, SameOutcome, moves, sends, too_many, undecodable}
use Rattle.fixpoint_theory.specs.Views.{outcome}
use Rattle.fixpoint_theory.specs.declared.transfer.Transferred.{Transferred}
use Rattle.domain_laws.specs.Domain.{Meaning}
use Rattle.analysis_transfer_laws.specs.Problem.{Problem}
use Rattle.analysis_transfer_laws.specs.Transfer.{counter_of, moved, moved_to, uses_in}
use Rattle.analysis_transfer.specs.Outcomes.{IsOutcome}

module _ {X E W N C : Type 0} (B : Algebra W N C) (D : Elements E State) (M : Meaning E W N C) (p : Problem) (view : X → E) (r : Transferred X W) where
  -- with the members of a counter as targets
  pub with_members : (before : E) (state : Abs W N) (log : List Seen) (counter : W) (members : Option (List ℕ)) (targets : List ℕ) (post : E) (uses : List Seen)
      → outcome view r ≡ moves targets (Some post) uses → members ≡ Some targets → D.same post (M.closed before state) → D.fits post → uses ≡ uses_in p log
      → IsOutcome D view r (moved_to B M p before state log counter members)
  with_members before state log counter members targets post uses e listed same fits used = record {
    same = subst (λ o. SameOutcome D o (moved_to B M p before state log counter members)) (sym e)
        (subst (λ ms. SameOutcome D (moves targets (Some post) uses) (moved_to B M p before state log counter ms)) (sym listed) (refl, same, used));
    fits = subst (IfPost D.fits) (sym e) fits;
  }

  -- with the word of a counter that has too many
  pub without_members : (before : E) (state : Abs W N) (log : List Seen) (counter shown : W) (uses : List Seen) (members : Option (List ℕ)) → outcome view r ≡ too_many shown uses → members ≡ None
      → shown ≡ counter → uses ≡ uses_in p log → IsOutcome D view r (moved_to B M p before state log counter members)
  without_members before state log counter shown uses members e none same used = record {
    same = subst (λ o. SameOutcome D o (moved_to B M p before state log counter members)) (sym e)
        (subst (λ ms. SameOutcome D (too_many shown uses) (moved_to B M p before state log counter ms)) (sym none) (same, used));
    fits = subst (IfPost D.fits) (sym e) tt;
  }

module _ {E W N C : Type 0} (B : Algebra W N C) (M : Meaning E W N C) (p : Problem) (before : E) (state : Abs W N) (log : List Seen) where
  -- behind a state that has a counter of 32 bits, or none
  pub counted : (w : ℕ) (counter : W) → counter_of state ≡ Some (w, counter) → w ≡ 32
      → moved_to B M p before state log counter (B.words.members M.context 32 counter p.limit) ≡ moved B M p before state log (counter_of state)
  counted w counter e bits =
      ap (λ n. moved_to B M p before state log counter (B.words.members M.context n counter p.limit)) (sym bits) ∙ ap (moved B M p before state log) (sym e)

  pub uncounted : counter_of state ≡ None → moves [] None (uses_in p log) ≡ moved B M p before state log (counter_of state)
  uncounted e = ap (moved B M p before state log) (sym e)

-- an outcome that is the same as one with a decoding has one
decoded_too : {E S W : Type 0} (D : Elements E S) (given told : Outcome E W) → SameOutcome D given told → IsDecoded told → IsDecoded given
decoded_too D (undecodable v) (undecodable w) same has = has
decoded_too D (undecodable v) (too_many w us) same has = same
decoded_too D (undecodable v) (moves ts x us) same has = same
decoded_too D (too_many v us) told same has = tt
decoded_too D (moves ts x us) told same has = tt
decoded_too D (sends xs us) told same has = tt
decoded_too D (undecodable v) (sends ys us) same has = same

-- where there is one, nothing is owed of a word without
pub never_undecodable : {X E S W F : Type 0} (D : Elements E S) (view : X → E) (result : Result (Transferred X W) F) (o : Outcome E W) (P : Type 0) → IsDecoded o
    → IfOk result (λ r. IsOutcome D view r o) → IfOk result (λ r. (IsDecoded (outcome view r) → ⊥) → P)
never_undecodable D view (Ok r) o P has h = λ none. absurd (none (decoded_too D (outcome view r) o h.same has))
never_undecodable D view (Err e) o P has h = tt

-- an outcome that is the same
pub instead : {X E S W F : Type 0} (D : Elements E S) (view : X → E) (result : Result (Transferred X W) F) (o u : Outcome E W) → o ≡ u
    → IfOk result (λ r. IsOutcome D view r o) → IfOk result (λ r. IsOutcome D view r u)
instead D view result o u e h = subst (λ z. IfOk result (λ r. IsOutcome D view r z)) e h

-- The laws of transfers that an analysis rests on.
use Rattle.std.proofs.Common.{◌≡◌, ℕ, ◌<◌, ◌^◌, List, [], ◌∷◌, Option, Some, None, refl, subst}
use Rattle.base_trait.specs.Algebra.{Algebra}
use Rattle.base_trait.specs.Laws.{Laws}
use Rattle.base_trait.specs.Uses.{Seen}
use Rattle.semantics_values.specs.States.{State}
use Rattle.semantics_values.specs.Types.{environment_of}
use Rattle.semantics_values.specs.Values.{Val}
use Rattle.semantics.specs.Decode.{decoded}
use Rattle.abstract_value_laws.specs.Abs.{Abs}
use Rattle.abstract_value_laws.specs.OfValues.{of_value}
use Rattle.support_tail_fixpoint.specs.Answer.{IfGives, fails, gives}
use Rattle.abstract_semantics.specs.Answers.{Answer}
use Rattle.fixpoint_theory.specs.Elements.{Elements}
use Rattle.fixpoint_theory.specs.Outcome.{SameOutcome}
use Rattle.domain_laws.specs.Domain.{Meaning}
use Rattle.domain_laws.specs.States.{state_type}
use Rattle.domain_laws.specs.Values.{IsStateValue}
use Rattle.analysis_transfer_laws.specs.Analysis.{of_states}
use Rattle.analysis_transfer_laws.specs.Laws.{EvaluationsGiveStates, IsAnalysed, TransfersKeepTheLaws}
use Rattle.analysis_transfer_laws.specs.Problem.{Problem}
use Rattle.analysis_transfer_laws.specs.Transfer.{arguments, counter_of, executed, fetched, moved, moved_to, outcome_of}
use Rattle.analysis_transfer_laws.proofs.Elements.{of_states_laws}
use Rattle.analysis_transfer_laws.proofs.Evaluated.{IsEvaluated, evaluated, state_value}
use Rattle.analysis_transfer_laws.proofs.Transfers.{transfer_right}

-- ---- elements that are the same
module _ {E W N C : Type 0} (B : Algebra W N C) (laws : Laws W N C B) (cap : ℕ) (D : Elements E State) (M : Meaning E W N C) (p : Problem) (calls : ℕ → ℕ → List (Abs W N) → Answer (Abs W N)) (h : IsAnalysed B cap D M p calls)
    (a : ℕ) (lt : a < 2 ^ 32) (x y : E) (fit_x : D.fits x) (fit_y : D.fits y) (same : D.same x y) where
  moved_same : (state : Abs W N) (log : List Seen) (counter : ℕ × W) → IsStateValue B M.context cap (state_type p.spec) state → (o : Option (List ℕ))
      → SameOutcome (of_states p.spec D) (moved_to B M p x state log counter.1 o) (moved_to B M p y state log counter.1 o)
  moved_same state log counter is None = (refl, refl)
  moved_same state log counter is (Some targets) = (refl, h.domain.close_same x y state fit_x fit_y is same, refl)

  answer_same : (r : Answer (Abs W N)) → IsEvaluated B cap D M p a x r → SameOutcome (of_states p.spec D) (outcome_of B M p x r) (outcome_of B M p y r)
  answer_same (fails i) is = (refl, tt, refl)
  answer_same (gives None log) is = (refl, tt, refl)
  answer_same (gives (Some state) log) is = at (counter_of state) refl
    where
      at : (o : Option (ℕ × W)) → counter_of state ≡ o → SameOutcome (of_states p.spec D) (moved B M p x state log o) (moved B M p y state log o)
      at None e = (refl, tt, refl)
      at (Some counter) e = moved_same state log counter (state_value B laws cap D M p calls h state counter is.kept.0 e) (B.words.members M.context counter.0 counter.1 p.limit)

  executed_same : (code_word : ℕ) (o : Option Val) → decoded p.machine.instr p.spec.rows code_word ≡ o → SameOutcome (of_states p.spec D) (executed B cap M p calls a x code_word o) (executed B cap M p calls a y code_word o)
  executed_same code_word None e = refl
  executed_same code_word (Some instruction) e =
      subst (λ z. SameOutcome (of_states p.spec D) (outcome_of B M p x (calls a p.machine.interp (arguments B cap M p a x instruction)))
      (outcome_of B M p y (calls a p.machine.interp (of_value B M.context cap (environment_of p.spec) instruction ∷ z ∷ []))))
      (h.domain.open_same a x y fit_x fit_y same)
      (answer_same (calls a p.machine.interp (arguments B cap M p a x instruction)) (evaluated B laws cap D M p calls h a x code_word instruction lt fit_x e))

  fetched_same : (o : Option ℕ) → SameOutcome (of_states p.spec D) (fetched B cap M p calls a x o) (fetched B cap M p calls a y o)
  fetched_same None = (refl, tt, refl)
  fetched_same (Some code_word) = executed_same code_word (decoded p.machine.instr p.spec.rows code_word) refl

-- ---- the laws
module _ {E W N C : Type 0} (B : Algebra W N C) (laws : Laws W N C B) (cap : ℕ) (D : Elements E State) (M : Meaning E W N C) where
  pub transfers_keep_the_laws : TransfersKeepTheLaws B cap D M
  transfers_keep_the_laws p calls h = record {
    elements = of_states_laws p.spec D h.domain.elements;
    code = h.posed.image;
    entry_fits = h.domain.entry_fits p.lines h.posed.lines;
    entry_lists = h.domain.entry_lists p.lines;
    transfer_fits = λ a x code fit. (transfer_right B laws cap D M p calls h a x code fit).fits;
    transfer_lists = λ a x code fit. (transfer_right B laws cap D M p calls h a x code fit).lists;
    transfer_targets = λ a x code fit. (transfer_right B laws cap D M p calls h a x code fit).targets;
    transfer_uses = λ a x code fit. (transfer_right B laws cap D M p calls h a x code fit).uses;
    transfer_unstamped = λ a x code fit. (transfer_right B laws cap D M p calls h a x code fit).unstamped;
    transfer_same = λ a x y code fit_x fit_y same. fetched_same B laws cap D M p calls h a (h.posed.addressed a code) x y fit_x fit_y same (p.word_at a);
  }

  pub evaluations_give_states : EvaluationsGiveStates B cap D M
  evaluations_give_states p calls a x code_word instruction counter h code fit e =
      at (calls a p.machine.interp (arguments B cap M p a x instruction)) (evaluated B laws cap D M p calls h a x code_word instruction (h.posed.addressed a code) fit e)
    where
      at : (r : Answer (Abs W N)) → IsEvaluated B cap D M p a x r → IfGives r (λ y. counter_of y ≡ Some counter → IsStateValue B M.context cap (state_type p.spec) y)
      at (fails i) is = tt
      at (gives None log) is = tt
      at (gives (Some y) log) is = λ e. state_value B laws cap D M p calls h y counter is.kept.0 e

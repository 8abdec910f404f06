-- Words that transfers show are of 32 bits.
use Rattle.std.proofs.Common.{◌≡◌, ℕ, ◌<◌, ◌^◌, List, Option, Some, None, refl, subst}
use Rattle.base_trait.specs.Algebra.{Algebra}
use Rattle.base_trait.specs.Laws.{Laws}
use Rattle.base_trait.specs.Uses.{Seen}
use Rattle.semantics_values.specs.States.{State}
use Rattle.semantics_values.specs.Values.{Val}
use Rattle.semantics.specs.Decode.{decoded}
use Rattle.abstract_value_laws.specs.Abs.{Abs, word, made, no_case, present, part}
use Rattle.support_tail_fixpoint.specs.Answer.{fails, gives}
use Rattle.abstract_semantics.specs.Answers.{Answer}
use Rattle.fixpoint_theory.specs.Elements.{Elements}
use Rattle.domain_laws.specs.Domain.{Meaning}
use Rattle.domain_laws.specs.States.{StateType, state_type}
use Rattle.domain_laws.specs.Values.{IsStateValue}
use Rattle.analysis_transfer_laws.specs.Laws.{IsAnalysed}
use Rattle.analysis_transfer_laws.specs.Problem.{Problem}
use Rattle.analysis_transfer_laws.specs.Transfer.{arguments, counter_of, executed, fetched, moved, moved_to, outcome_of}
use Rattle.analysis_transfer_laws.proofs.Evaluated.{IsEvaluated, evaluated, state_value}
use Rattle.analysis_table_laws.specs.InvariantLaws.{IfShown, ShownWordsFit}

-- the word of the counter of a state is of 32 bits
counter_is : {W N C : Type 0} (B : Algebra W N C) (c : C) (cap : ℕ) (t : StateType) (y : Abs W N) (counter : ℕ × W) → IsStateValue B c cap t y → counter_of y ≡ Some counter → B.words.fits c 32 counter.1
counter_is B c cap t (made ty (present (part (word w x) xs) no_case)) counter h e =
    let same : (w, x) ≡ counter = cc in
    subst (λ q. B.words.fits c 32 q.1) same (subst (λ u. B.words.fits c u x) h.0.1 h.1.0.0.1)
counter_is B c cap t _ counter h e = absurd cc

module _ {E W N C : Type 0} (B : Algebra W N C) (laws : Laws W N C B) (cap : ℕ) (D : Elements E State) (M : Meaning E W N C) (p : Problem) (calls : ℕ → ℕ → List (Abs W N) → Answer (Abs W N)) (h : IsAnalysed B cap D M p calls) (a : ℕ) (x : E) where
  abbrev Is32 : W → Type 0
  Is32 = B.words.fits M.context 32

  moved_shown : (y : Abs W N) (log : List Seen) (counter : ℕ × W) (o : Option (List ℕ)) → Is32 counter.1 → IfShown Is32 (moved_to B M p x y log counter.1 o)
  moved_shown y log counter None fits = fits
  moved_shown y log counter (Some targets) fits = tt

  answer_shown : (r : Answer (Abs W N)) → IsEvaluated B cap D M p a x r → IfShown Is32 (outcome_of B M p x r)
  answer_shown (fails i) is = tt
  answer_shown (gives None log) is = tt
  answer_shown (gives (Some y) log) is = at (counter_of y) refl
    where
      at : (o : Option (ℕ × W)) → counter_of y ≡ o → IfShown Is32 (moved B M p x y log o)
      at None e = tt
      at (Some counter) e =
          moved_shown y log counter (B.words.members M.context counter.0 counter.1 p.limit) (counter_is B M.context cap (state_type p.spec) y counter (state_value B laws cap D M p calls h y counter is.kept.0 e) e)

  module _ (lt : a < 2 ^ 32) (fit : D.fits x) where
    executed_shown : (code_word : ℕ) (o : Option Val) → decoded p.machine.instr p.spec.rows code_word ≡ o → IfShown Is32 (executed B cap M p calls a x code_word o)
    executed_shown code_word None e = tt
    executed_shown code_word (Some instruction) e = answer_shown (calls a p.machine.interp (arguments B cap M p a x instruction)) (evaluated B laws cap D M p calls h a x code_word instruction lt fit e)

    fetched_shown : (o : Option ℕ) → IfShown Is32 (fetched B cap M p calls a x o)
    fetched_shown None = tt
    fetched_shown (Some code_word) = executed_shown code_word (decoded p.machine.instr p.spec.rows code_word) refl

pub shown_words_fit : {E W N C : Type 0} (B : Algebra W N C) → Laws W N C B → (cap : ℕ) (D : Elements E State) (M : Meaning E W N C) → ShownWordsFit B cap D M
shown_words_fit B laws cap D M p calls a x h code fit = fetched_shown B laws cap D M p calls h a x (h.posed.addressed a code) fit (p.word_at a)

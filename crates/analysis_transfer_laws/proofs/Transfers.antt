-- The analysis of a problem keeps what the theory of fixed points rests on.
use Rattle.std.proofs.Common.{inr, ◌≡◌, ℕ, ◌<◌, ◌^◌, false, List, [], ◌∷◌, Option, Some, None, refl, subst, IsTrue}
use Rattle.word_operations.specs.Width.{IsWidth}
use Rattle.base_trait.specs.Algebra.{Algebra}
use Rattle.base_trait.specs.Laws.{Laws}
use Rattle.base_trait.specs.Lists.{AreAmong, Each}
use Rattle.base_trait.specs.Uses.{Seen}
use Rattle.base_trait.specs.declared.uses.Stamp.TheVariants.{At}
use Rattle.base_trait.proofs.Lists.{are_among_from}
use Rattle.spec_ir.specs.declared.ty.Ty.TheVariants.{Data as DataTy}
use Rattle.semantics_values.specs.States.{State}
use Rattle.semantics_values.specs.Types.{environment_of}
use Rattle.semantics_values.specs.Values.{Val}
use Rattle.semantics.specs.Decode.{decoded}
use Rattle.abstract_value_laws.specs.Abs.{Abs, word, made, no_case, present, part}
use Rattle.abstract_value_laws.specs.Fits.{Fits}
use Rattle.abstract_value_laws.specs.Shapes.{ListsStamps}
use Rattle.abstract_value_laws.specs.Keys.{KeysFit}
use Rattle.support_tail_fixpoint.specs.Answer.{fails, gives}
use Rattle.abstract_semantics.specs.Answers.{Answer}
use Rattle.abstract_semantics.proofs.Typed.{IsOf}
use Rattle.fixpoint_theory.specs.Code.{is_code}
use Rattle.fixpoint_theory.specs.Elements.{Elements}
use Rattle.fixpoint_theory.specs.Outcome.{AreOfStamps, HasTargets, IfPost, IfUses, Outcome, moves}
use Rattle.domain_laws.specs.Domain.{Meaning}
use Rattle.domain_laws.specs.States.{state_type}
use Rattle.domain_laws.specs.Values.{IsStateValue}
use Rattle.analysis_transfer_laws.specs.Laws.{IsAnalysed}
use Rattle.analysis_transfer_laws.specs.Problem.{Problem}
use Rattle.analysis_transfer_laws.specs.Transfer.{arguments, counter_of, executed, fetched, moved, moved_to, outcome_of, transfer_of, uses_in}
use Rattle.analysis_transfer_laws.proofs.Evaluated.{IsEvaluated, evaluated, state_value}
use Rattle.analysis_transfer_laws.proofs.Merging.{merged_within}

-- the word of a counter fits
pub counter_fits : {W N C : Type 0} (B : Algebra W N C) (c : C) (cap : ℕ) (y : Abs W N) (counter : ℕ × W) → Fits B c cap y → counter_of y ≡ Some counter → IsWidth counter.0 × B.words.fits c counter.0 counter.1
counter_fits B c cap (made t (present (part (word w x) xs) no_case)) counter h e =
    let same : (w, x) ≡ counter = cc in
    subst (λ q. IsWidth q.0 × B.words.fits c q.0 q.1) same h.0.0
counter_fits B c cap _ counter h e = absurd cc

module _ {E W N C : Type 0} (B : Algebra W N C) (laws : Laws W N C B) (cap : ℕ) (D : Elements E State) (M : Meaning E W N C) (p : Problem) (calls : ℕ → ℕ → List (Abs W N) → Answer (Abs W N)) (h : IsAnalysed B cap D M p calls) where
  abbrev Result : Abs W N → Type 0
  Result = IsOf B M.context cap (environment_of p.spec) (KeysFit (environment_of p.spec)) (DataTy p.machine.state)

  -- ---- what is asked of an outcome of an element
  pub record IsRight (a : ℕ) (x : E) (given : Outcome E W) : Type 0 where
    pub fits : IfPost D.fits given
    pub lists : IfPost (λ post. AreAmong (D.listed post) (At a ∷ D.listed x)) given
    pub targets : HasTargets given
    pub uses : IfUses (AreOfStamps (At a ∷ D.listed x)) given
    pub unstamped : B.notes.stamped ≡ false → IfUses (λ uses. uses ≡ []) given

  no_uses : (log : List Seen) → Each (λ u. ⊥) log → uses_in p log ≡ []
  no_uses [] none = refl
  no_uses (u ∷ log) none = absurd none.0

  module _ (a : ℕ) (x : E) (fit : D.fits x) where
    no_targets : (log : List Seen) → AreOfStamps (At a ∷ D.listed x) log → (B.notes.stamped ≡ false → Each (λ u. ⊥) log) → IsRight a x (moves [] None (uses_in p log))
    no_targets log own none = record {
      fits = tt;
      lists = tt;
      targets = refl;
      uses = merged_within (At a ∷ D.listed x) (state_type p.spec).fields log own;
      unstamped = λ e. no_uses log (none e);
    }

    moved_right : (y : Abs W N) (log : List Seen) (counter : ℕ × W) → IsStateValue B M.context cap (state_type p.spec) y → counter_of y ≡ Some counter → ListsStamps B (At a ∷ D.listed x) y → AreOfStamps (At a ∷ D.listed x) log
        → (B.notes.stamped ≡ false → Each (λ u. ⊥) log) → (o : Option (List ℕ)) → B.words.members M.context counter.0 counter.1 p.limit ≡ o → IsRight a x (moved_to B M p x y log counter.1 o)
    moved_right y log counter state e lists own none None is = record {
      fits = tt;
      lists = tt;
      targets = tt;
      uses = merged_within (At a ∷ D.listed x) (state_type p.spec).fields log own;
      unstamped = λ e. no_uses log (none e);
    }
    moved_right y log counter state e lists own none (Some targets) is =
        let word_fits = counter_fits B M.context cap y counter state.1 e in
        record {
          fits = h.domain.close_fits x y fit state;
          lists = h.domain.close_lists (At a ∷ D.listed x) x y fit state (are_among_from (D.listed x) (At a ∷ D.listed x) (λ s k. inr k)) lists;
          targets = laws.words.members_ascend M.context counter.0 p.limit targets counter.1 word_fits.0 word_fits.1 is;
          uses = merged_within (At a ∷ D.listed x) (state_type p.spec).fields log own;
          unstamped = λ e. no_uses log (none e);
        }

    answer_right : (r : Answer (Abs W N)) → IsEvaluated B cap D M p a x r → IsRight a x (outcome_of B M p x r)
    answer_right (fails i) is = record { fits = tt; lists = tt; targets = refl; uses = tt; unstamped = λ e. refl }
    answer_right (gives None log) is = no_targets log is.logged is.unstamped
    answer_right (gives (Some y) log) is = at (counter_of y) refl
      where
        at : (o : Option (ℕ × W)) → counter_of y ≡ o → IsRight a x (moved B M p x y log o)
        at None e = no_targets log is.logged is.unstamped
        at (Some counter) e =
            moved_right y log counter (state_value B laws cap D M p calls h y counter is.kept.0 e) e is.lists is.logged is.unstamped (B.words.members M.context counter.0 counter.1 p.limit) refl

    executed_right : (lt : a < 2 ^ 32) (code_word : ℕ) (o : Option Val) → decoded p.machine.instr p.spec.rows code_word ≡ o → IsRight a x (executed B cap M p calls a x code_word o)
    executed_right lt code_word None e = record { fits = tt; lists = tt; targets = tt; uses = tt; unstamped = λ e. tt }
    executed_right lt code_word (Some instruction) e = answer_right (calls a p.machine.interp (arguments B cap M p a x instruction)) (evaluated B laws cap D M p calls h a x code_word instruction lt fit e)

    fetched_right : (lt : a < 2 ^ 32) (o : Option ℕ) → IsRight a x (fetched B cap M p calls a x o)
    fetched_right lt None = record { fits = tt; lists = tt; targets = refl; uses = tt; unstamped = λ e. refl }
    fetched_right lt (Some code_word) = executed_right lt code_word (decoded p.machine.instr p.spec.rows code_word) refl

  pub transfer_right : (a : ℕ) (x : E) → IsTrue (is_code p.addresses a) → D.fits x → IsRight a x (transfer_of B cap M p calls a x)
  transfer_right a x code fit = fetched_right a x fit (h.posed.addressed a code) (p.word_at a)

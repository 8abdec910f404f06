-- Enough turns do: an activation that is driven through them comes to its answer.
use Rattle.std.proofs.Common.{◌≡◌, ◌≢◌, ℕ, zero, suc, ◌+◌, ◌*◌, ◌<◌, ◌≤◌, true, List, [], ◌∷◌, Option, None, Some, arith, refl, subst, sym}
use Rattle.std.specs.Prelude.{IfSome}
use Rattle.support_tail_fixpoint.specs.declared.driver_request.DriverRequest.{DriverRequest}
use Rattle.support_tail_fixpoint.specs.declared.driver_request.DriverRequest.TheVariants.{Turn, Out, OutOfFuel}
use Rattle.support_tail_fixpoint.specs.declared.after.After.{After}
use Rattle.support_tail_fixpoint.specs.declared.after.After.TheVariants.{Another, Ended, TooDeep}
use Rattle.support_tail_fixpoint.specs.declared.policy.Policy.{Policy}
use Rattle.support_tail_fixpoint.specs.Activation.{Activation, Answers, HasTurn, after_turn, start}
use Rattle.support_tail_fixpoint.specs.Answer.{Answer, IfGives, Yield, fails, gives, next_of, out_of}
use Rattle.support_tail_fixpoint.specs.Driving.{Drives, Remaining}
use Rattle.support_tail_fixpoint.specs.Evaluation.{ComeTo, EndsWith, Gave, IsAnswer, TurnsGive}
use Rattle.support_tail_fixpoint.specs.Fitting.{KeepsArgs}
use Rattle.support_tail_fixpoint.specs.Leaves.{join_leaves}
use Rattle.support_tail_fixpoint.specs.Measure.{LowersRankUnder, measure, turns_left}
use Rattle.support_tail_fixpoint.specs.Moves.{Moves}
use Rattle.support_tail_fixpoint.specs.Rule.{Evaluated}
use Rattle.support_tail_fixpoint.proofs.Ending.{IsLower, next_lowers}
use Rattle.support_tail_fixpoint.proofs.Measured.{measures_fall}
use Rattle.support_tail_fixpoint.proofs.Remains.{answers_are_driven}
use Rattle.abstract_semantics.specs.Driven.{driven, enough_turns, followed, turned}

module _ {F S A O : Type 0} (m : Moves A O) (deep : F) (turn_on : A → S → Answer F S (Yield A O)) where
  abbrev turn_with : A → Option (Yield A O) → Evaluated A O
  turn_with args y = record { args = args; out = out_of y; next = next_of y }

  -- a turn that fails
  fails_now : (now : Activation A O) (state : S) (f : F) → turn_on now.args state ≡ fails f → Remaining m deep turn_on now state (fails f)
  fails_now now state f given = record {
    turns = turn_with now.args None ∷ [];
    asked = Out (join_leaves m now.leaves None);
    drives = (refl, λ e. cc, (now, refl));
    come_to = subst (λ z. Gave z (turn_with now.args None) (ComeTo deep turn_on [] (Out (join_leaves m now.leaves None))) (fails f)) (sym given) (refl, refl, refl);
  }

  -- the last turn
  ends_now : (now : Activation A O) (state : S) (y : Option (Yield A O)) (after : S) (asked : DriverRequest O) (answer : Answer F S O) → turn_on now.args state ≡ gives y after
      → asked ≢ Turn → Answers m now (out_of y) (next_of y) asked now → EndsWith deep asked after answer → Remaining m deep turn_on now state answer
  ends_now now state y after asked answer given last answers ends = record {
    turns = turn_with now.args y ∷ [];
    asked = asked;
    drives = (refl, last, (now, answers));
    come_to = subst (λ z. Gave z (turn_with now.args y) (ComeTo deep turn_on [] asked) answer) (sym given) (refl, refl, ends);
  }

  -- a turn before others
  goes_on : (now new : Activation A O) (state : S) (y : Option (Yield A O)) (after : S) (answer : Answer F S O) → turn_on now.args state ≡ gives y after
      → Answers m now (out_of y) (next_of y) Turn new → Remaining m deep turn_on new after answer → Remaining m deep turn_on now state answer
  goes_on now new state y after answer given answers rest = before rest.turns rest.drives rest.come_to
    where
      before : (turns : List (Evaluated A O)) → Drives m new turns rest.asked → ComeTo deep turn_on turns rest.asked after answer → Remaining m deep turn_on now state answer
      before [] drives come = absurd drives
      before (later ∷ more) drives come = record {
        turns = turn_with now.args y ∷ (later ∷ more);
        asked = rest.asked;
        drives = (refl, (new, answers, drives));
        come_to = subst (λ z. Gave z (turn_with now.args y) (ComeTo deep turn_on (later ∷ more) rest.asked) answer) (sym given) (refl, refl, come);
      }

  module _ (Fits : A → Type 0) (rank : A → ℕ) (height : ℕ) (keeps : KeepsArgs m Fits) (on_fits : TurnsGive turn_on Fits (λ y. IfSome y.next Fits))
      (low : (args : A) → Fits args → rank args ≤ height) where
    -- so many turns do for each activation that is lower
    abbrev DoLower : ℕ → Activation A O → Type 0
    DoLower turns now = (new : Activation A O) (state : S) → IsLower m Fits rank now.left now.args new.left new.args → Remaining m deep turn_on new state (driven m deep turn_on turns new state)

    given_next : (y : Option (Yield A O)) → IfSome y (λ y. IfSome y.next Fits) → IfSome (next_of y) Fits
    given_next None fits = tt
    given_next (Some y) fits = fits

    comes_after : (turns : ℕ) (now : Activation A O) (state : S) (y : Option (Yield A O)) (later : S) (after : After A) → turn_on now.args state ≡ gives y later
        → LowersRankUnder m Fits rank now.left → Fits now.args → IfSome (next_of y) Fits → after_turn m now.left now.args (next_of y) ≡ after
        → DoLower turns now → Remaining m deep turn_on now state (followed m deep turn_on (driven m deep turn_on turns) after (join_leaves m now.leaves (out_of y)) later)
    comes_after turns now state y later (Another left args) given can fits next is lower =
        let new : Activation A O = record { running = true; left = left; args = args; leaves = join_leaves m now.leaves (out_of y) } in
        goes_on now new state y later (driven m deep turn_on turns new later) given (rw is (refl, refl)) (lower new later (next_lowers m Fits rank now.left now.args (next_of y) left args keeps can fits next is))
    comes_after turns now state y later Ended given can fits next is lower =
        ends_now now state y later (Out (join_leaves m now.leaves (out_of y))) (gives (join_leaves m now.leaves (out_of y)) later) given (λ e. cc) (rw is refl) refl
    comes_after turns now state y later TooDeep given can fits next is lower =
        ends_now now state y later OutOfFuel (fails deep) given (λ e. cc) (rw is refl) refl

    comes_to : (turns : ℕ) (now : Activation A O) (state : S) → LowersRankUnder m Fits rank now.left → Fits now.args → DoLower turns now
        → Remaining m deep turn_on now state (turned m deep turn_on (driven m deep turn_on turns) now (turn_on now.args state))
    comes_to turns now state can fits lower = at_given (turn_on now.args state) refl (on_fits now.args state fits)
      where
        at_given : (given : Answer F S (Yield A O)) → turn_on now.args state ≡ given → IfGives given (λ y. IfSome y.next Fits)
            → Remaining m deep turn_on now state (turned m deep turn_on (driven m deep turn_on turns) now given)
        at_given (fails f) is next = fails_now now state f is
        at_given (gives y later) is next = comes_after turns now state y later (after_turn m now.left now.args (next_of y)) is can fits (given_next y next) refl lower

    one_less : (new old turns : ℕ) → new < old → old < suc turns → new < turns
    one_less new old turns lt few = omega (arith, lt, few)

    -- more turns than the measure do
    remains : (turns : ℕ) (now : Activation A O) (state : S) → LowersRankUnder m Fits rank now.left → Fits now.args → measure rank height now < turns
        → Remaining m deep turn_on now state (driven m deep turn_on turns now state)
    remains zero now state can fits few = absurd (no_less (measure rank height now) few)
      where
        no_less : (n : ℕ) → n < zero → ⊥
        no_less n lt = omega (arith, lt)
    remains (suc turns) now state can fits few =
        comes_to turns now state can fits (λ new later lower. remains turns new later lower.can_end lower.fits
        (one_less (measure rank height new) (measure rank height now) turns (measures_fall rank height now new (low now.args fits) (low new.args lower.fits) lower.falls) few))

    few_enough : (before rank height : ℕ) → rank ≤ height → before + rank < before + height + 1
    few_enough before rank height le = omega (arith, le)

    -- ---- the answer of an activation
    pub driven_answers : (policy : Policy) (args : A) (state : S) → HasTurn policy → LowersRankUnder m Fits rank policy → Fits args
        → IsAnswer deep turn_on m policy args state (driven m deep turn_on (enough_turns policy height) (start args policy) state)
    driven_answers policy args state has can fits =
        (answers_are_driven m policy deep turn_on args state (driven m deep turn_on (enough_turns policy height) (start args policy) state) has).1
        (remains (enough_turns policy height) (start args policy) state can fits (few_enough (turns_left policy * (height + 1)) (rank args) height (low args fits)))

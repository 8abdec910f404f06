-- Every activation ends.
use Rattle.std.proofs.Common.{◌≡◌, ◌≢◌, ℕ, zero, suc, ◌-◌, ◌<◌, ◌≤◌, ◌⊎◌, inl, inr, Bool, true, false, List, [], ◌∷◌, Option, None, Some, arith, refl, subst, sym, nat_lt, if◌then◌else◌}
use Rattle.std.specs.Prelude.{IfSome, ⊤}
use Rattle.std.proofs.lemmas.Bool.Decides.{nat_tests}
use Rattle.support_tail_fixpoint.specs.declared.driver_request.DriverRequest.{DriverRequest}
use Rattle.support_tail_fixpoint.specs.declared.driver_request.DriverRequest.TheVariants.{Turn, Out, OutOfFuel}
use Rattle.support_tail_fixpoint.specs.declared.after.After.{After}
use Rattle.support_tail_fixpoint.specs.declared.after.After.TheVariants.{Another, Ended, TooDeep}
use Rattle.support_tail_fixpoint.specs.declared.policy.Policy.{Policy}
use Rattle.support_tail_fixpoint.specs.declared.policy.Policy.TheVariants.{Stop, Widen}
use Rattle.support_tail_fixpoint.specs.Activation.{Activation, Answers, HasTurn, after_turn, start}
use Rattle.support_tail_fixpoint.specs.Answer.{Answer, IfGives, Yield, fails, gives, next_of, out_of}
use Rattle.support_tail_fixpoint.specs.Driving.{Drives, Remaining}
use Rattle.support_tail_fixpoint.specs.Evaluation.{ComeTo, EndsWith, Gave, IsAnswer, TurnsGive}
use Rattle.support_tail_fixpoint.specs.Fitting.{KeepsArgs, WideningLowersRank}
use Rattle.support_tail_fixpoint.specs.Laws.{StoppedAnswersExist, WidenedAnswersExist}
use Rattle.support_tail_fixpoint.specs.Leaves.{join_leaves}
use Rattle.support_tail_fixpoint.specs.Measure.{LowersRankUnder, turns_left}
use Rattle.support_tail_fixpoint.specs.Moves.{Moves}
use Rattle.support_tail_fixpoint.specs.Rule.{Evaluated}
use Rattle.support_tail_fixpoint.proofs.Remains.{answers_are_driven}

module _ {A O : Type 0} (m : Moves A O) (Fits : A → Type 0) (rank : A → ℕ) where
  -- Another turn is lower than the turn before it.
  pub record IsLower (left : Policy) (args : A) (later : Policy) (new : A) : Type 0 where
    pub fits : Fits new
    pub can_end : LowersRankUnder m Fits rank later
    pub falls : (turns_left later < turns_left left) ⊎ ((turns_left later ≡ turns_left left) × (rank new < rank args))

  stop_lowers : (turns : ℕ) (args next : A) (more : Bool) (later : Policy) (new : A)
      → nat_lt 1 turns ≡ more → Fits next
      → (if more then Another (Stop (turns - 1)) next else TooDeep) ≡ Another later new
      → IsLower (Stop turns) args later new
  stop_lowers turns args next true later new e fits is =
      let l : later ≡ Stop (turns - 1) = cc in
      let a : new ≡ next = cc in
      rw (l, a) (record { fits = fits; can_end = tt; falls = inl (grind (arith, nat_tests)) })
  stop_lowers turns args next false later new e fits is = cc

  widen_lowers : (unroll delay : ℕ) (args next : A) (more absorbed joins : Bool) (later : Policy) (new : A)
      → nat_lt 0 unroll ≡ more → m.absorbs args next ≡ absorbed → nat_lt 0 delay ≡ joins
      → KeepsArgs m Fits → WideningLowersRank m Fits rank → Fits args → Fits next
      → (if more then Another (Widen (unroll - 1) delay) next
      else if absorbed then Ended
      else if joins then Another (Widen 0 (delay - 1)) (m.join_args args next)
      else Another (Widen 0 0) (m.widen_args args next)) ≡ Another later new
      → IsLower (Widen unroll delay) args later new
  widen_lowers unroll delay args next true absorbed joins later new e b j keeps lowers old fits is =
      let l : later ≡ Widen (unroll - 1) delay = cc in
      let a : new ≡ next = cc in
      rw (l, a) (record { fits = fits; can_end = lowers; falls = inl (grind (arith, nat_tests)) })
  widen_lowers unroll delay args next false true joins later new e b j keeps lowers old fits is = cc
  widen_lowers unroll delay args next false false true later new e b j keeps lowers old fits is =
      let l : later ≡ Widen 0 (delay - 1) = cc in
      let a : new ≡ m.join_args args next = cc in
      rw (l, a) (record { fits = keeps.join_args args next old fits; can_end = lowers; falls = inl (grind (arith, nat_tests)) })
  widen_lowers unroll delay args next false false false later new e b j keeps lowers old fits is =
      let l : later ≡ Widen 0 0 = cc in
      let a : new ≡ m.widen_args args next = cc in
      rw (l, a) (record {
        fits = keeps.widen_args args next old fits;
        can_end = lowers;
        falls = inr (grind (arith, nat_tests), lowers.lowers args next old fits b);
      })

  pub next_lowers : (left : Policy) (args : A) (next : Option A) (later : Policy) (new : A)
      → KeepsArgs m Fits → LowersRankUnder m Fits rank left → Fits args → IfSome next Fits
      → after_turn m left args next ≡ Another later new
      → IsLower left args later new
  next_lowers left args None later new keeps can old fits is = cc
  next_lowers (Stop turns) args (Some next) later new keeps can old fits is =
      stop_lowers turns args next (nat_lt 1 turns) later new refl fits is
  next_lowers (Widen unroll delay) args (Some next) later new keeps can old fits is =
      widen_lowers unroll delay args next (nat_lt 0 unroll) (m.absorbs args next) (nat_lt 0 delay) later new refl refl refl keeps can old fits is

module _ {F S A O : Type 0} (m : Moves A O) (deep : F) (turn_on : A → S → Answer F S (Yield A O)) where
  -- Finitely many turns are left, and they come to an answer.
  abbrev Finishes : Activation A O → S → Type 0
  Finishes now state = (answer : Answer F S O) × Remaining m deep turn_on now state answer

  abbrev turn_with : A → Option (Yield A O) → Evaluated A O
  turn_with args y = record { args = args; out = out_of y; next = next_of y }

  -- a turn that fails
  fails_now : (now : Activation A O) (state : S) (f : F) → turn_on now.args state ≡ fails f → Finishes now state
  fails_now now state f given = (
    fails f,
    record {
      turns = turn_with now.args None ∷ [];
      asked = Out (join_leaves m now.leaves None);
      drives = (refl, λ e. cc, (now, refl));
      come_to = subst (λ z. Gave z (turn_with now.args None) (ComeTo deep turn_on [] (Out (join_leaves m now.leaves None))) (fails f)) (sym given) (refl, refl, refl);
    },
  )

  -- the last turn
  ends_now : (now : Activation A O) (state : S) (y : Option (Yield A O)) (after : S) (asked : DriverRequest O) (answer : Answer F S O) → turn_on now.args state ≡ gives y after
      → asked ≢ Turn → Answers m now (out_of y) (next_of y) asked now → EndsWith deep asked after answer → Finishes now state
  ends_now now state y after asked answer given last answers ends = (
    answer,
    record {
      turns = turn_with now.args y ∷ [];
      asked = asked;
      drives = (refl, last, (now, answers));
      come_to = subst (λ z. Gave z (turn_with now.args y) (ComeTo deep turn_on [] asked) answer) (sym given) (refl, refl, ends);
    },
  )

  -- a turn before others
  finishes_later : (now new : Activation A O) (state : S) (y : Option (Yield A O)) (after : S) → turn_on now.args state ≡ gives y after
      → Answers m now (out_of y) (next_of y) Turn new → Finishes new after → Finishes now state
  finishes_later now new state y after given answers rest = (rest.0, before rest.1.turns rest.1.drives rest.1.come_to)
    where
      before : (turns : List (Evaluated A O)) → Drives m new turns rest.1.asked → ComeTo deep turn_on turns rest.1.asked after rest.0 → Remaining m deep turn_on now state rest.0
      before [] drives come = absurd drives
      before (later ∷ more) drives come = record {
        turns = turn_with now.args y ∷ (later ∷ more);
        asked = rest.1.asked;
        drives = (refl, (new, answers, drives));
        come_to = subst (λ z. Gave z (turn_with now.args y) (ComeTo deep turn_on (later ∷ more) rest.1.asked) rest.0) (sym given) (refl, refl, come);
      }

  module _ (Fits : A → Type 0) (rank : A → ℕ) (keeps : KeepsArgs m Fits) (on_fits : TurnsGive turn_on Fits (λ y. IfSome y.next Fits)) where
    given_next : (y : Option (Yield A O)) → IfSome y (λ y. IfSome y.next Fits) → IfSome (next_of y) Fits
    given_next None fits = tt
    given_next (Some y) fits = fits

    -- Where each lower activation finishes, so does one whose turn gave this.
    finishes_after : (now : Activation A O) (state : S) (y : Option (Yield A O)) (later : S) (after : After A) → turn_on now.args state ≡ gives y later
        → LowersRankUnder m Fits rank now.left → Fits now.args → IfSome (next_of y) Fits → after_turn m now.left now.args (next_of y) ≡ after
        → ((new : Activation A O) (state : S) → IsLower m Fits rank now.left now.args new.left new.args → Finishes new state) → Finishes now state
    finishes_after now state y later (Another left args) given can fits next is lower =
        let new : Activation A O = record { running = true; left = left; args = args; leaves = join_leaves m now.leaves (out_of y) } in
        finishes_later now new state y later given (rw is (refl, refl)) (lower new later (next_lowers m Fits rank now.left now.args (next_of y) left args keeps can fits next is))
    finishes_after now state y later Ended given can fits next is lower =
        ends_now now state y later (Out (join_leaves m now.leaves (out_of y))) (gives (join_leaves m now.leaves (out_of y)) later) given (λ e. cc) (rw is refl) refl
    finishes_after now state y later TooDeep given can fits next is lower =
        ends_now now state y later OutOfFuel (fails deep) given (λ e. cc) (rw is refl) refl

    finishes_if_lower : (now : Activation A O) (state : S) → LowersRankUnder m Fits rank now.left → Fits now.args
        → ((new : Activation A O) (state : S) → IsLower m Fits rank now.left now.args new.left new.args → Finishes new state) → Finishes now state
    finishes_if_lower now state can fits lower = at_given (turn_on now.args state) refl (on_fits now.args state fits)
      where
        at_given : (given : Answer F S (Yield A O)) → turn_on now.args state ≡ given → IfGives given (λ y. IfSome y.next Fits) → Finishes now state
        at_given (fails f) is next = fails_now now state f is
        at_given (gives y later) is next = finishes_after now state y later (after_turn m now.left now.args (next_of y)) is can fits (given_next y next) refl lower

    -- Where each activation with fewer turns left finishes, so does this one: by its rank.
    finishes_by_rank : (turns : ℕ)
        → ((now : Activation A O) (state : S) → LowersRankUnder m Fits rank now.left → Fits now.args → turns_left now.left < turns → Finishes now state)
        → (high : ℕ) (now : Activation A O) (state : S) → LowersRankUnder m Fits rank now.left → Fits now.args → turns_left now.left ≤ turns
        → rank now.args < high → Finishes now state
    finishes_by_rank turns fewer zero now state can fits few low = absurd (omega (arith, low))
    finishes_by_rank turns fewer (suc high) now state can fits few low =
        finishes_if_lower now state can fits
        (λ new later lower. elim lower.falls [
          | inl less ↦ fewer new later lower.can_end lower.fits (omega arith)
          | inr same ↦ finishes_by_rank turns fewer high new later lower.can_end lower.fits (omega arith) (omega arith)
        ])

    -- An activation finishes, by the turns that are left.
    finishes_by_turns : (turns : ℕ) (now : Activation A O) (state : S) → LowersRankUnder m Fits rank now.left → Fits now.args → turns_left now.left < turns → Finishes now state
    finishes_by_turns zero now state can fits few = absurd (omega (arith, few))
    finishes_by_turns (suc turns) now state can fits few =
        finishes_by_rank turns (finishes_by_turns turns) (suc (rank now.args)) now state can fits (omega arith) (omega arith)

    answers_exist : (policy : Policy) (args : A) (state : S) → HasTurn policy → LowersRankUnder m Fits rank policy → Fits args
        → (answer : Answer F S O) × IsAnswer deep turn_on m policy args state answer
    answers_exist policy args state has can fits =
        let finishes = finishes_by_turns (suc (turns_left policy)) (start args policy) state can fits (omega arith) in
        (finishes.0, (answers_are_driven m policy deep turn_on args state finishes.0 has).1 finishes.1)

pub widened_answers_exist : {F S A O : Type 0} (Fits : A → Type 0) → WidenedAnswersExist F S A O Fits
widened_answers_exist Fits m unroll delay deep turn_on rank args state keeps lowers on_fits fits =
    answers_exist m deep turn_on Fits rank keeps on_fits (Widen unroll delay) args state tt lowers fits

all_give : {F S A O : Type 0} (given : Answer F S (Yield A O)) → IfGives given (λ y. IfSome y.next (λ x. ⊤))
all_give (fails f) = tt
all_give (gives None state) = tt
all_give (gives (Some y) state) = all_some y.next
  where
    all_some : {X : Type 0} (next : Option X) → IfSome next (λ x. ⊤)
    all_some None = tt
    all_some (Some x) = tt

pub stopped_answers_exist : {F S A O : Type 0} → StoppedAnswersExist F S A O
stopped_answers_exist m turns deep turn_on args state has =
    answers_exist m deep turn_on (λ x. ⊤) (λ x. 0) (record { join_args = λ x y p q. tt; widen_args = λ x y p q. tt })
    (λ args state fits. all_give (turn_on args state)) (Stop turns) args state has tt tt

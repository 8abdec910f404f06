-- What the answer of an activation says of its turns.
use Rattle.std.proofs.Common.{◌≡◌, ℕ, ◌+◌, List, [], ◌∷◌, Option, None, Some, refl, subst, sym}
use Rattle.std.specs.Prelude.{IfSome, ⊤}
use Rattle.std.specs.List.{AllByRecursion}
use Rattle.std.proofs.lemmas.List.Elements.{All-from_recursion, All-weaker}
use Rattle.support_tail_fixpoint.specs.declared.driver_request.DriverRequest.{DriverRequest}
use Rattle.support_tail_fixpoint.specs.declared.driver_request.DriverRequest.TheVariants.{Turn, Out, OutOfFuel}
use Rattle.support_tail_fixpoint.specs.declared.policy.Policy.{Policy}
use Rattle.support_tail_fixpoint.specs.declared.policy.Policy.TheVariants.{Widen}
use Rattle.support_tail_fixpoint.specs.Answer.{Answer, IfGives, Succeeds, Yield, YieldFits, fails, gives, next_of, out_of}
use Rattle.support_tail_fixpoint.specs.Evaluation.{ComeTo, EndsWith, Gave, IsAnswer, IsEvaluated, TurnsGive}
use Rattle.support_tail_fixpoint.specs.Fitting.{KeepsArgs}
use Rattle.support_tail_fixpoint.specs.Laws.{AnswersCarryOver, AnswersFit, StatesGoOn, TurnsAreEvaluated, WidenedAnswersSucceed}
use Rattle.support_tail_fixpoint.specs.Moves.{Moves}
use Rattle.support_tail_fixpoint.specs.Rule.{AreTurns, Ends, Evaluated, IsActivation}
use Rattle.support_tail_fixpoint.specs.Turns.{LeavesFit}
use Rattle.support_tail_fixpoint.proofs.Fitted.{step_fits}
use Rattle.support_tail_fixpoint.proofs.Parts.{results_fit}

-- What a turn that gave this asks for fits.
next_given :
    {A O : Type 0} (Fits : A → Type 0) (y : Option (Yield A O)) (next : Option A)
    → next ≡ next_of y → IfSome y (λ y. IfSome y.next Fits) → IfSome next Fits
next_given Fits None next is fits = rw is tt
next_given Fits (Some y) next is fits = rw is fits

module _ {F S A O : Type 0} (m : Moves A O) (policy : Policy) (deep : F) (turn_on : A → S → Answer F S (Yield A O))
    (Fits : A → Type 0) (keeps : KeepsArgs m Fits) (on_fits : TurnsGive turn_on Fits (λ y. IfSome y.next Fits)) where
  abbrev GaveThen : (A → S → Answer F S (Yield A O)) → List (Evaluated A O) → DriverRequest O → Answer F S (Yield A O) → Evaluated A O → Answer F S O → Type 0
  GaveThen on rest asked given turn answer = Gave given turn (ComeTo deep on rest asked) answer

  -- ---- other turns that give the same
  module _ (other : A → S → Answer F S (Yield A O)) (same : (args : A) (state : S) → Fits args → turn_on args state ≡ other args state) where
    carries : (leaves : Option O) (asked : DriverRequest O) (answer : Answer F S O) (number : ℕ) (args : A) (state : S) (turns : List (Evaluated A O))
        → Fits args → AreTurns m policy leaves asked number args turns → ComeTo deep turn_on turns asked state answer → ComeTo deep other turns asked state answer
    carries leaves asked answer number args state [] fits are come = absurd are
    carries leaves asked answer number args state (turn ∷ []) fits are come =
        let turn_fits : Fits turn.args = rw are.0 fits in
        subst (λ z. GaveThen other [] asked z turn answer) (same turn.args state turn_fits) (at_given (turn_on turn.args state) come)
      where
        at_given : (given : Answer F S (Yield A O)) → GaveThen turn_on [] asked given turn answer → GaveThen other [] asked given turn answer
        at_given (fails f) gave = gave
        at_given (gives y later) gave = gave
    carries leaves asked answer number args state (turn ∷ (later ∷ rest)) fits are come =
        let turn_fits : Fits turn.args = rw are.0 fits in
        subst (λ z. GaveThen other (later ∷ rest) asked z turn answer) (same turn.args state turn_fits)
        (at_given (turn_on turn.args state) (on_fits turn.args state turn_fits) come turn_fits
        (λ after later_fits come. carries leaves asked answer (number + 1) later.args after (later ∷ rest) later_fits are.2 come))
      where
        at_given : (given : Answer F S (Yield A O)) → IfGives given (λ y. IfSome y.next Fits) → GaveThen turn_on (later ∷ rest) asked given turn answer → Fits turn.args
            → ((after : S) → Fits later.args → ComeTo deep turn_on (later ∷ rest) asked after answer → ComeTo deep other (later ∷ rest) asked after answer)
            → GaveThen other (later ∷ rest) asked given turn answer
        at_given (fails f) next gave turn_fits more = gave
        at_given (gives y after) next gave turn_fits more = (
          gave.0,
          gave.1,
          more after (step_fits m Fits policy number turn.args turn.next later.args keeps turn_fits (next_given Fits y turn.next gave.1 next) are.1) gave.2,
        )

  -- ---- no turn fails
  module _ (unroll delay : ℕ) (is_widen : policy ≡ Widen unroll delay) (each : (args : A) (state : S) → Fits args → Succeeds (turn_on args state)) where
    ends_out : (number : ℕ) (args : A) (next : Option A) (leaves : Option O) (asked : DriverRequest O) → Ends m (Widen unroll delay) number args next leaves asked → asked ≡ Out leaves
    ends_out number args None leaves asked ends = ends
    ends_out number args (Some next) leaves asked ends = ends.2

    succeeds : (leaves : Option O) (asked : DriverRequest O) (answer : Answer F S O) (number : ℕ) (args : A) (state : S) (turns : List (Evaluated A O))
        → Fits args → AreTurns m policy leaves asked number args turns → ComeTo deep turn_on turns asked state answer → Succeeds answer
    succeeds leaves asked answer number args state [] fits are come = absurd are
    succeeds leaves asked answer number args state (turn ∷ []) fits are come =
        let turn_fits : Fits turn.args = rw are.0 fits in
        let out : asked ≡ Out leaves = ends_out number turn.args turn.next leaves asked (subst (λ z. Ends m z number turn.args turn.next leaves asked) is_widen are.1) in
        at_given (turn_on turn.args state) (each turn.args state turn_fits) (subst (λ z. GaveThen turn_on [] z (turn_on turn.args state) turn answer) out come)
      where
        at_given : (given : Answer F S (Yield A O)) → Succeeds given → GaveThen turn_on [] (Out leaves) given turn answer → Succeeds answer
        at_given (fails f) ok gave = absurd ok
        at_given (gives y later) ok gave = subst Succeeds (sym gave.2) tt
    succeeds leaves asked answer number args state (turn ∷ (later ∷ rest)) fits are come =
        let turn_fits : Fits turn.args = rw are.0 fits in
        at_given (turn_on turn.args state) (each turn.args state turn_fits) (on_fits turn.args state turn_fits) come turn_fits
        (λ after later_fits come. succeeds leaves asked answer (number + 1) later.args after (later ∷ rest) later_fits are.2 come)
      where
        at_given : (given : Answer F S (Yield A O)) → Succeeds given → IfGives given (λ y. IfSome y.next Fits) → GaveThen turn_on (later ∷ rest) asked given turn answer → Fits turn.args
            → ((after : S) → Fits later.args → ComeTo deep turn_on (later ∷ rest) asked after answer → Succeeds answer) → Succeeds answer
        at_given (fails f) ok next gave turn_fits more = absurd ok
        at_given (gives y after) ok next gave turn_fits more =
            more after (step_fits m Fits policy number turn.args turn.next later.args keeps turn_fits (next_given Fits y turn.next gave.1 next) are.1) gave.2

  -- ---- the turns of an activation that does not fail
  module _ (Before : S → S → Type 0) (on : StatesGoOn turn_on Fits Before) where
    -- the turns come from the first state to the last, and end with these leaves
    pub record AreEvaluated (asked : DriverRequest O) (given : Option O) (first last : S) (turns : List (Evaluated A O)) : Type 0 where
      pub asked_is : asked ≡ Out given
      pub before : Before first last
      pub each : AllByRecursion (IsEvaluated turn_on Fits Before last) turns

    ends_at : (asked : DriverRequest O) (given : Option O) (state last : S) → EndsWith deep asked state (gives given last) → (asked ≡ Out given) × (state ≡ last)
    ends_at Turn given state last ends = absurd ends
    ends_at (Out leaves) given state last ends =
        let same : given ≡ leaves = cc in
        let last_is : state ≡ last = cc in
        (cc, last_is)
    ends_at OutOfFuel given state last ends = cc

    evaluated_from : (leaves : Option O) (asked : DriverRequest O) (given : Option O) (last : S) (number : ℕ) (args : A) (first : S) (turns : List (Evaluated A O))
        → Fits args → AreTurns m policy leaves asked number args turns → ComeTo deep turn_on turns asked first (gives given last) → AreEvaluated asked given first last turns
    evaluated_from leaves asked given last number args first [] fits are come = absurd are
    evaluated_from leaves asked given last number args first (turn ∷ []) fits are come =
        let turn_fits : Fits turn.args = rw are.0 fits in
        at_given (turn_on turn.args first) refl come turn_fits
      where
        at_given : (gave : Answer F S (Yield A O)) → turn_on turn.args first ≡ gave → GaveThen turn_on [] asked gave turn (gives given last) → Fits turn.args
            → AreEvaluated asked given first last (turn ∷ [])
        at_given (fails f) is come turn_fits = let never : gives given last ≡ fails f = come.2 in cc
        at_given (gives y later) is come turn_fits =
            let ends = ends_at asked given later last come.2 in
            let before = on.turns turn.args first y later turn_fits is in
            record {
              asked_is = ends.0;
              before = subst (Before first) ends.1 before;
              each = (
                record {
                  fits = turn_fits;
                  from = first;
                  to = later;
                  yield = y;
                  gave = is;
                  out_is = come.0;
                  next_is = come.1;
                  within = subst (Before later) ends.1 (on.itself later);
                },
                tt,
              );
            }
    evaluated_from leaves asked given last number args first (turn ∷ (later ∷ rest)) fits are come =
        let turn_fits : Fits turn.args = rw are.0 fits in
        at_given (turn_on turn.args first) refl (on_fits turn.args first turn_fits) come turn_fits
        (λ after later_fits come. evaluated_from leaves asked given last (number + 1) later.args after (later ∷ rest) later_fits are.2 come)
      where
        at_given : (gave : Answer F S (Yield A O)) → turn_on turn.args first ≡ gave → IfGives gave (λ y. IfSome y.next Fits)
            → GaveThen turn_on (later ∷ rest) asked gave turn (gives given last) → Fits turn.args
            → ((after : S) → Fits later.args → ComeTo deep turn_on (later ∷ rest) asked after (gives given last) → AreEvaluated asked given after last (later ∷ rest))
            → AreEvaluated asked given first last (turn ∷ (later ∷ rest))
        at_given (fails f) is next come turn_fits more = let never : gives given last ≡ fails f = come.2 in cc
        at_given (gives y after) is next come turn_fits more =
            let rest_of = more after (step_fits m Fits policy number turn.args turn.next later.args keeps turn_fits (next_given Fits y turn.next come.1 next) are.1) come.2 in
            record {
              asked_is = rest_of.asked_is;
              before = on.on first after last (on.turns turn.args first y after turn_fits is) rest_of.before;
              each = (
                record {
                  fits = turn_fits;
                  from = first;
                  to = after;
                  yield = y;
                  gave = is;
                  out_is = come.0;
                  next_is = come.1;
                  within = rest_of.before;
                },
                rest_of.each,
              );
            }

pub answers_carry_over : {F S A O : Type 0} (Fits : A → Type 0) → AnswersCarryOver F S A O Fits
answers_carry_over Fits m policy deep turn_on other args state answer keeps on_fits fits same h = record {
  turns = h.turns;
  asked = h.asked;
  by_rule = h.by_rule;
  come_to = carries m policy deep turn_on Fits keeps on_fits other same _ h.asked answer 1 args state h.turns fits h.by_rule h.come_to;
}

pub widened_answers_succeed : {F S A O : Type 0} (Fits : A → Type 0) → WidenedAnswersSucceed F S A O Fits
widened_answers_succeed Fits m unroll delay deep turn_on args state answer keeps on_fits fits each h =
    succeeds m (Widen unroll delay) deep turn_on Fits keeps on_fits unroll delay refl each _ h.asked answer 1 args state h.turns fits h.by_rule h.come_to

pub turns_are_evaluated : {F S A O : Type 0} (Fits : A → Type 0) (Before : S → S → Type 0) → TurnsAreEvaluated F S A O Fits Before
turns_are_evaluated Fits Before m policy deep turn_on args first last leaves keeps on_fits on fits h =
    let are = evaluated_from m policy deep turn_on Fits keeps on_fits Before on _ h.asked leaves last 1 args first h.turns fits h.by_rule h.come_to in (
      subst (λ z. IsActivation m policy args h.turns z) are.asked_is h.by_rule,
      are.before,
      All-from_recursion (IsEvaluated turn_on Fits Before last) h.turns are.each,
    )

-- ---- what turns give fits
module _ {F S A O : Type 0} (ArgsFit : A → Type 0) (OutFits : O → Type 0) (turn_on : A → S → Answer F S (Yield A O)) (on_fits : TurnsGive turn_on ArgsFit (YieldFits ArgsFit OutFits)) where
  next_fits : TurnsGive turn_on ArgsFit (λ y. IfSome y.next ArgsFit)
  next_fits args state fits = at_given (turn_on args state) (on_fits args state fits)
    where
      at_given : (given : Answer F S (Yield A O)) → IfGives given (YieldFits ArgsFit OutFits) → IfGives given (λ y. IfSome y.next ArgsFit)
      at_given (fails f) h = tt
      at_given (gives None state) h = tt
      at_given (gives (Some y) state) h = h.1

  leaves_fit : (last : S) (turn : Evaluated A O) → IsEvaluated turn_on ArgsFit (λ x y. ⊤) last turn → LeavesFit OutFits turn
  leaves_fit last turn is = at_given is.yield is.out_is (subst (λ z. IfGives z (YieldFits ArgsFit OutFits)) is.gave (on_fits turn.args is.from is.fits))
    where
      at_given : (y : Option (Yield A O)) → turn.out ≡ out_of y → IfSome y (YieldFits ArgsFit OutFits) → LeavesFit OutFits turn
      at_given None e h = rw e tt
      at_given (Some y) e h = rw e h.0

pub answers_fit : {F S A O : Type 0} (ArgsFit : A → Type 0) (OutFits : O → Type 0) → AnswersFit F S A O ArgsFit OutFits
answers_fit {F} {S} {A} {O} ArgsFit OutFits m policy deep turn_on args state answer keeps_args keeps_out on_fits fits h = at_answer answer h
  where
    at_answer : (answer : Answer F S O) → IsAnswer deep turn_on m policy args state answer → IfGives answer OutFits
    at_answer (fails f) h = tt
    at_answer (gives None last) h = tt
    at_answer (gives (Some x) last) h =
        let are = turns_are_evaluated ArgsFit (λ x y. ⊤) m policy deep turn_on args state last (Some x) keeps_args (next_fits ArgsFit OutFits turn_on on_fits)
        (record { itself = λ s. tt; on = λ x y z p q. tt; turns = λ args s y later f e. tt }) fits h
        in
        results_fit OutFits m policy args h.turns (Some x) keeps_out (All-weaker (IsEvaluated turn_on ArgsFit (λ x y. ⊤) last) (LeavesFit OutFits) (leaves_fit ArgsFit OutFits turn_on on_fits last) h.turns are.2) are.0

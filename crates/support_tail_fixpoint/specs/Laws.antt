-- What holds of every driver and of every activation.
use Rattle.std.specs.Prelude.{◌≡◌, ◌↔◌, ℕ, ◌<◌, ◌≤◌, List, All, Contains, Option, Some, IfSome, IsSomeAnd}
use Rattle.support_tail_fixpoint.specs.declared.driver_request.DriverRequest.{DriverRequest}
use Rattle.support_tail_fixpoint.specs.declared.driver_request.DriverRequest.TheVariants.{Out}
use Rattle.support_tail_fixpoint.specs.declared.policy.Policy.{Policy}
use Rattle.support_tail_fixpoint.specs.declared.policy.Policy.TheVariants.{Stop, Widen}
use Rattle.support_tail_fixpoint.specs.Absorbing.{Absorbing, AbsorbingUnder, AbsorptionOrders}
use Rattle.support_tail_fixpoint.specs.Activation.{Activation, HasTurn, start}
use Rattle.support_tail_fixpoint.specs.Answer.{Answer, IfGives, Succeeds, Yield, YieldFits, gives}
use Rattle.support_tail_fixpoint.specs.Driving.{Drives, GoesOn, Remaining}
use Rattle.support_tail_fixpoint.specs.Evaluation.{IsAnswer, IsEvaluated, TurnsGive}
use Rattle.support_tail_fixpoint.specs.Fitting.{KeepsArgs, KeepsOut, WideningLowersRank}
use Rattle.support_tail_fixpoint.specs.Leaves.{IsPart}
use Rattle.support_tail_fixpoint.specs.Measure.{Falls, measure}
use Rattle.support_tail_fixpoint.specs.Moves.{Moves}
use Rattle.support_tail_fixpoint.specs.Rule.{Evaluated, IsActivation}
use Rattle.support_tail_fixpoint.specs.Turns.{AreInOrder, AreMet, LastAbsorbs, LeavesFit, NextFits, TurnFits}

-- A driver is driven through turns, and answers this to the last of them, exactly where these are the turns of
-- an activation by the rule, and that is what is answered.
abbrev pub DriversFollowTheRule : (A O : Type 0) → Type 0
DriversFollowTheRule A O =
    (m : Moves A O) (policy : Policy) (args : A) (turns : List (Evaluated A O)) (asked : DriverRequest O) → HasTurn policy
    → Drives m (start args policy) turns asked ↔ IsActivation m policy args turns asked

-- Both numbers that fall are one that falls.
abbrev pub MeasuresFall : (A O : Type 0) → Type 0
MeasuresFall A O =
    (rank : A → ℕ) (height : ℕ) (old new : Activation A O) → rank old.args ≤ height → rank new.args ≤ height
    → Falls rank old new → measure rank height new < measure rank height old

-- The turns of an activation go on by the rule from number to number.
abbrev pub TurnsAreInOrder : (A O : Type 0) → Type 0
TurnsAreInOrder A O =
    (m : Moves A O) (policy : Policy) (args : A) (turns : List (Evaluated A O)) (asked : DriverRequest O)
    → IsActivation m policy args turns asked → AreInOrder m policy args turns asked

-- Where each turn on arguments that fit asks for such, all turns are on such.
abbrev pub TurnsFit : (A O : Type 0) → (A → Type 0) → Type 0
TurnsFit A O Fits =
    (m : Moves A O) (policy : Policy) (args : A) (turns : List (Evaluated A O)) (asked : DriverRequest O)
    → KeepsArgs m Fits → Fits args → ((turn : Evaluated A O) → Contains turns turn → Fits turn.args → NextFits Fits turn)
    → IsActivation m policy args turns asked → All (TurnFits Fits) turns

-- Where the leaves of all turns fit, so do those of the activation.
abbrev pub ResultsFit : (A O : Type 0) → (O → Type 0) → Type 0
ResultsFit A O Fits =
    (m : Moves A O) (policy : Policy) (args : A) (turns : List (Evaluated A O)) (leaves : Option O)
    → KeepsOut m Fits → All (LeavesFit Fits) turns → IsActivation m policy args turns (Out leaves) → IfSome leaves Fits

-- Under `Widen` the last turn is on arguments that absorb each turn past the first `unroll`.
abbrev pub LastArgumentsAbsorb : (A O : Type 0) → (A → Type 0) → Type 0
LastArgumentsAbsorb A O Fits =
    (m : Moves A O) (unroll delay : ℕ) (args : A) (turns : List (Evaluated A O)) (asked : DriverRequest O)
    → KeepsArgs m Fits → Absorbing m Fits → AbsorptionOrders m Fits → Fits args → All (NextFits Fits) turns
    → IsActivation m (Widen unroll delay) args turns asked → LastAbsorbs m Fits unroll turns

-- In an activation that ends with `Out`, its arguments are met, and so are those that any turn asks for.
abbrev pub ArgumentsAreMet : (A O : Type 0) → (A → Type 0) → Type 0
ArgumentsAreMet A O Fits =
    (m : Moves A O) (policy : Policy) (args : A) (turns : List (Evaluated A O)) (leaves : Option O)
    → KeepsArgs m Fits → AbsorbingUnder m Fits policy → Fits args → All (NextFits Fits) turns
    → IsActivation m policy args turns (Out leaves)
    → AreMet m Fits turns args
    × ((turn : Evaluated A O) (next : A) → Contains turns turn → turn.next ≡ Some next → AreMet m Fits turns next)

-- In an activation that ends with `Out`, the leaves of each turn are part of its leaves.
abbrev pub LeavesArePart : (A O : Type 0) → (O → Type 0) → Type 0
LeavesArePart A O Fits =
    (m : Moves A O) (policy : Policy) (args : A) (turns : List (Evaluated A O)) (leaves : Option O)
    → KeepsOut m Fits → All (LeavesFit Fits) turns → IsActivation m policy args turns (Out leaves)
    → (turn : Evaluated A O) (x : O) → Contains turns turn → turn.out ≡ Some x → IsSomeAnd leaves (IsPart m Fits x)

-- ---- turns that are a function of arguments and a state

-- An activation has one answer at most.
abbrev pub AnswersAreOne : (F S A O : Type 0) → Type 0
AnswersAreOne F S A O =
    (m : Moves A O) (policy : Policy) (deep : F) (turn_on : A → S → Answer F S (Yield A O)) (args : A) (state : S) (answer other : Answer F S O)
    → HasTurn policy → IsAnswer deep turn_on m policy args state answer → IsAnswer deep turn_on m policy args state other → answer ≡ other

-- Under `Stop` an activation has an answer.
abbrev pub StoppedAnswersExist : (F S A O : Type 0) → Type 0
StoppedAnswersExist F S A O =
    (m : Moves A O) (turns : ℕ) (deep : F) (turn_on : A → S → Answer F S (Yield A O)) (args : A) (state : S)
    → 1 ≤ turns → (answer : Answer F S O) × IsAnswer deep turn_on m (Stop turns) args state answer

-- Under `Widen` an activation has an answer, where widening lowers the rank of arguments that fit.
abbrev pub WidenedAnswersExist : (F S A O : Type 0) → (A → Type 0) → Type 0
WidenedAnswersExist F S A O Fits =
    (m : Moves A O) (unroll delay : ℕ) (deep : F) (turn_on : A → S → Answer F S (Yield A O)) (rank : A → ℕ) (args : A) (state : S)
    → KeepsArgs m Fits → WideningLowersRank m Fits rank → TurnsGive turn_on Fits (λ y. IfSome y.next Fits) → Fits args
    → (answer : Answer F S O) × IsAnswer deep turn_on m (Widen unroll delay) args state answer

-- Turns that give the same on arguments that fit have the same answers.
abbrev pub AnswersCarryOver : (F S A O : Type 0) → (A → Type 0) → Type 0
AnswersCarryOver F S A O Fits =
    (m : Moves A O) (policy : Policy) (deep : F) (turn_on other : A → S → Answer F S (Yield A O)) (args : A) (state : S) (answer : Answer F S O)
    → KeepsArgs m Fits → TurnsGive turn_on Fits (λ y. IfSome y.next Fits) → Fits args
    → ((args : A) (state : S) → Fits args → turn_on args state ≡ other args state)
    → IsAnswer deep turn_on m policy args state answer → IsAnswer deep other m policy args state answer

-- Where turns give what fits, so does the activation.
abbrev pub AnswersFit : (F S A O : Type 0) → (A → Type 0) → (O → Type 0) → Type 0
AnswersFit F S A O ArgsFit OutFits =
    (m : Moves A O) (policy : Policy) (deep : F) (turn_on : A → S → Answer F S (Yield A O)) (args : A) (state : S) (answer : Answer F S O)
    → KeepsArgs m ArgsFit → KeepsOut m OutFits → TurnsGive turn_on ArgsFit (YieldFits ArgsFit OutFits) → ArgsFit args
    → IsAnswer deep turn_on m policy args state answer → IfGives answer OutFits

-- Under `Widen` an activation fails only where a turn does.
abbrev pub WidenedAnswersSucceed : (F S A O : Type 0) → (A → Type 0) → Type 0
WidenedAnswersSucceed F S A O Fits =
    (m : Moves A O) (unroll delay : ℕ) (deep : F) (turn_on : A → S → Answer F S (Yield A O)) (args : A) (state : S) (answer : Answer F S O)
    → KeepsArgs m Fits → TurnsGive turn_on Fits (λ y. IfSome y.next Fits) → Fits args
    → ((args : A) (state : S) → Fits args → Succeeds (turn_on args state))
    → IsAnswer deep turn_on m (Widen unroll delay) args state answer → Succeeds answer

-- States go on from turn to turn.
pub record StatesGoOn {F S A O : Type 0} (turn_on : A → S → Answer F S (Yield A O)) (Fits : A → Type 0) (Before : S → S → Type 0) : Type 0 where
  pub itself : (state : S) → Before state state
  pub on : (x y z : S) → Before x y → Before y z → Before x z
  pub turns : (args : A) (state : S) (y : Option (Yield A O)) (later : S) → Fits args → turn_on args state ≡ gives y later → Before state later

-- Where an activation does not fail, each of its turns was evaluated, and none was too deep.
abbrev pub TurnsAreEvaluated : (F S A O : Type 0) → (A → Type 0) → (S → S → Type 0) → Type 0
TurnsAreEvaluated F S A O Fits Before =
    (m : Moves A O) (policy : Policy) (deep : F) (turn_on : A → S → Answer F S (Yield A O)) (args : A) (first last : S) (leaves : Option O)
    → KeepsArgs m Fits → TurnsGive turn_on Fits (λ y. IfSome y.next Fits) → StatesGoOn turn_on Fits Before → Fits args
    → (h : IsAnswer deep turn_on m policy args first (gives leaves last))
    → IsActivation m policy args h.turns (Out leaves) × Before first last × All (IsEvaluated turn_on Fits Before last) h.turns

-- The answer of an activation is what the turns of a driver come to.
abbrev pub AnswersAreDriven : (F S A O : Type 0) → Type 0
AnswersAreDriven F S A O =
    (m : Moves A O) (policy : Policy) (deep : F) (turn_on : A → S → Answer F S (Yield A O)) (args : A) (state : S) (answer : Answer F S O)
    → HasTurn policy → IsAnswer deep turn_on m policy args state answer ↔ Remaining m deep turn_on (start args policy) state answer

-- With each turn what is left comes to the same answer.
abbrev pub TurnsGoOn : (F S A O : Type 0) → Type 0
TurnsGoOn F S A O =
    (m : Moves A O) (deep : F) (turn_on : A → S → Answer F S (Yield A O)) (now : Activation A O) (state : S) (answer : Answer F S O)
    → Remaining m deep turn_on now state answer → GoesOn m deep turn_on now (turn_on now.args state) answer

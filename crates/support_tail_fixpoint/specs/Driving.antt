-- Through which turns a driver is taken.
use Rattle.std.specs.Prelude.{◌≡◌, ◌≢◌, List, [], ◌∷◌}
use Rattle.support_tail_fixpoint.specs.declared.driver_request.DriverRequest.{DriverRequest}
use Rattle.support_tail_fixpoint.specs.declared.driver_request.DriverRequest.TheVariants.{Turn, Out, OutOfFuel}
use Rattle.support_tail_fixpoint.specs.Activation.{Activation, Answers}
use Rattle.support_tail_fixpoint.specs.Answer.{Answer, Yield, fails, gives, out_of, next_of}
use Rattle.support_tail_fixpoint.specs.Evaluation.{ComeTo}
use Rattle.support_tail_fixpoint.specs.Moves.{Moves}
use Rattle.support_tail_fixpoint.specs.Rule.{Evaluated}

-- A driver that stands so asks for these turns one after another, each on its arguments, is given
-- what they gave, and answers this to the last of them.
abbrev pub Drives : {A O : Type 0} → Moves A O → Activation A O → List (Evaluated A O) → DriverRequest O → Type 0
Drives m now [] asked = ⊥
Drives {A} {O} m now (turn ∷ []) asked =
    (turn.args ≡ now.args)
    × (asked ≢ Turn)
    × ((new : Activation A O) × Answers m now turn.out turn.next asked new)
Drives {A} {O} m now (turn ∷ (later ∷ rest)) asked =
    (turn.args ≡ now.args)
    × ((new : Activation A O) × Answers m now turn.out turn.next Turn new × Drives m new (later ∷ rest) asked)

module _ {F S A O : Type 0} (m : Moves A O) (deep : F) (turn_on : A → S → Answer F S (Yield A O)) where
  -- The turns that are left to a driver that stands so, evaluated from this state, come to the answer.
  pub record Remaining (now : Activation A O) (state : S) (answer : Answer F S O) : Type 0 where
    pub turns : List (Evaluated A O)
    pub asked : DriverRequest O
    pub drives : Drives m now turns asked
    pub come_to : ComeTo deep turn_on turns asked state answer

  -- What is left once this was answered to a turn comes to the answer.
  abbrev pub RemainingAfter : DriverRequest O → Activation A O → S → Answer F S O → Type 0
  RemainingAfter Turn new state answer = Remaining new state answer
  RemainingAfter (Out leaves) new state answer = answer ≡ gives leaves state
  RemainingAfter OutOfFuel new state answer = answer ≡ fails deep

  -- A turn of a driver that stands so gave this, and what is left comes to the answer, whatever the driver answers by its step.
  abbrev pub GoesOn : Activation A O → Answer F S (Yield A O) → Answer F S O → Type 0
  GoesOn now (fails f) answer = answer ≡ fails f
  GoesOn now (gives y state) answer =
      (asked : DriverRequest O) (new : Activation A O) → Answers m now (out_of y) (next_of y) asked new → RemainingAfter asked new state answer

-- What activations come to whose turns are a function of their arguments and of a state.
use Rattle.std.specs.Prelude.{◌≡◌, List, [], ◌∷◌, Option, None}
use Rattle.support_tail_fixpoint.specs.declared.driver_request.DriverRequest.{DriverRequest}
use Rattle.support_tail_fixpoint.specs.declared.driver_request.DriverRequest.TheVariants.{Turn, Out, OutOfFuel}
use Rattle.support_tail_fixpoint.specs.declared.policy.Policy.{Policy}
use Rattle.support_tail_fixpoint.specs.Answer.{Answer, IfGives, Yield, fails, gives, out_of, next_of}
use Rattle.support_tail_fixpoint.specs.Moves.{Moves}
use Rattle.support_tail_fixpoint.specs.Rule.{Evaluated, IsActivation}

-- `turn_on` says what a turn gives, on which arguments and from which state. `deep` is how an activation fails
-- that has no turn left.

-- what an activation gives where this was answered to its last turn, with the state as it is then
abbrev pub EndsWith : {F S O : Type 0} → (deep : F) → DriverRequest O → S → Answer F S O → Type 0
EndsWith deep Turn state answer = ⊥
EndsWith deep (Out leaves) state answer = answer ≡ gives leaves state
EndsWith deep OutOfFuel state answer = answer ≡ fails deep

-- The turn gave what was evaluated, and what comes `later` begins in the state as it is then. A turn that
-- fails gives nothing, and its activation fails as it did.
abbrev pub Gave : {F S A O : Type 0} → Answer F S (Yield A O) → Evaluated A O → (later : S → Answer F S O → Type 0) → Answer F S O → Type 0
Gave (fails f) turn later answer = (turn.out ≡ None) × (turn.next ≡ None) × (answer ≡ fails f)
Gave (gives y state) turn later answer = (turn.out ≡ out_of y) × (turn.next ≡ next_of y) × later state answer

module _ {F S A O : Type 0} (deep : F) (turn_on : A → S → Answer F S (Yield A O)) where
  -- Turns that are evaluated one after another from a state, and end so, come to an answer.
  abbrev pub ComeTo : List (Evaluated A O) → DriverRequest O → S → Answer F S O → Type 0
  ComeTo [] asked state answer = EndsWith deep asked state answer
  ComeTo (turn ∷ rest) asked state answer = Gave (turn_on turn.args state) turn (ComeTo rest asked) answer

  -- The answer is that of an activation on these arguments and from this state.
  pub record IsAnswer (m : Moves A O) (policy : Policy) (args : A) (state : S) (answer : Answer F S O) : Type 0 where
    pub turns : List (Evaluated A O)
    pub asked : DriverRequest O
    pub by_rule : IsActivation m policy args turns asked
    pub come_to : ComeTo turns asked state answer

module _ {F S A O : Type 0} (turn_on : A → S → Answer F S (Yield A O)) where
  -- Every turn on arguments that fit gives such a yield, or none, or fails.
  abbrev pub TurnsGive : (Fits : A → Type 0) → (Yield A O → Type 0) → Type 0
  TurnsGive Fits P = (args : A) (state : S) → Fits args → IfGives (turn_on args state) P

  -- The turn is on arguments that fit, and was evaluated from some state to one that stands before the last.
  pub record IsEvaluated (Fits : A → Type 0) (Before : S → S → Type 0) (last : S) (turn : Evaluated A O) : Type 0 where
    pub fits : Fits turn.args
    pub from : S
    pub to : S
    pub yield : Option (Yield A O)
    pub gave : turn_on turn.args from ≡ gives yield to
    pub out_is : turn.out ≡ out_of yield
    pub next_is : turn.next ≡ next_of yield
    pub within : Before to last

-- What holds of every driver, whatever its turns give.
use Rattle.std.specs.Prelude.{◌≡◌, ℕ, ◌+◌, List, [], ◌∷◌, Option, IfSome}
use Rattle.support_tail_fixpoint.specs.declared.driver_request.DriverRequest.{DriverRequest}
use Rattle.support_tail_fixpoint.specs.declared.policy.Policy.{Policy}
use Rattle.support_tail_fixpoint.specs.Activation.{HasTurn, start}
use Rattle.support_tail_fixpoint.specs.Driving.{Drives}
use Rattle.support_tail_fixpoint.specs.Fitting.{KeepsArgs}
use Rattle.support_tail_fixpoint.specs.Measure.{LowersRankUnder}
use Rattle.support_tail_fixpoint.specs.Moves.{Moves}
use Rattle.support_tail_fixpoint.specs.Rule.{Evaluated, IsActivation}

-- Turns from a number on gave these leaves and next arguments.
abbrev pub GaveByNumber : {A O : Type 0} → (ℕ → Option O) → (ℕ → Option A) → ℕ → List (Evaluated A O) → Type 0
GaveByNumber out next number [] = Unit {0}
GaveByNumber out next number (turn ∷ rest) =
    (turn.out ≡ out number) × (turn.next ≡ next number) × GaveByNumber out next (number + 1) rest

-- Whatever its turns give, where the next arguments fit, a driver asks for finitely many.
abbrev pub DriversEnd : (A O : Type 0) → (A → Type 0) → Type 0
DriversEnd A O Fits =
    (m : Moves A O) (rank : A → ℕ) (policy : Policy) (args : A) (out : ℕ → Option O) (next : ℕ → Option A)
    → KeepsArgs m Fits → LowersRankUnder m Fits rank policy → Fits args → ((number : ℕ) → IfSome (next number) Fits)
    → (turns : List (Evaluated A O)) × (asked : DriverRequest O) × GaveByNumber out next 1 turns × Drives m (start args policy) turns asked

-- What its turns give settles the turns of an activation and its answer.
abbrev pub ActivationsAreSettled : (A O : Type 0) → Type 0
ActivationsAreSettled A O =
    (m : Moves A O) (policy : Policy) (args : A) (out : ℕ → Option O) (next : ℕ → Option A)
    (turns others : List (Evaluated A O)) (asked other : DriverRequest O)
    → HasTurn policy → GaveByNumber out next 1 turns → GaveByNumber out next 1 others
    → IsActivation m policy args turns asked → IsActivation m policy args others other
    → (turns ≡ others) × (asked ≡ other)

-- Every driver ends.
use Rattle.std.proofs.Common.{◌≡◌, ℕ, zero, suc, ◌+◌, List, [], ◌∷◌, Option, None, Some, arith, refl, sym}
use Rattle.support_tail_fixpoint.specs.declared.driver_request.DriverRequest.{DriverRequest}
use Rattle.support_tail_fixpoint.specs.declared.driver_request.DriverRequest.TheVariants.{Out, OutOfFuel}
use Rattle.support_tail_fixpoint.specs.declared.policy.Policy.{Policy}
use Rattle.support_tail_fixpoint.specs.declared.policy.Policy.TheVariants.{Stop, Widen}
use Rattle.support_tail_fixpoint.specs.Activation.{HasTurn, start}
use Rattle.support_tail_fixpoint.specs.Answer.{Answer, Yield, gives}
use Rattle.support_tail_fixpoint.specs.Driving.{Drives}
use Rattle.support_tail_fixpoint.specs.Evaluation.{ComeTo, IsAnswer}
use Rattle.support_tail_fixpoint.specs.Moves.{Moves}
use Rattle.support_tail_fixpoint.specs.Rule.{Evaluated}
use Rattle.support_tail_fixpoint.proofs.Driving.{drivers_follow_the_rule}
use Rattle.support_tail_fixpoint.proofs.Ending.{stopped_answers_exist, widened_answers_exist}
use Rattle.support_tail_fixpoint.specs.DriverLaws.{DriversEnd, GaveByNumber}

module _ {A O : Type 0} (m : Moves A O) (out : ℕ → Option O) (next : ℕ → Option A) where
  -- a turn gives what is given by its number, which is the state
  abbrev turn_on : A → ℕ → Answer (Unit {0}) ℕ (Yield A O)
  turn_on args number = gives (Some (record { out = out number; next = next number })) (number + 1)

  -- Turns that are evaluated so gave that.
  gave_by_number :
      (turns : List (Evaluated A O)) (asked : DriverRequest O) (number : ℕ) (answer : Answer (Unit {0}) ℕ O)
      → ComeTo tt turn_on turns asked number answer → GaveByNumber out next number turns
  gave_by_number [] asked number answer come = tt
  gave_by_number (turn ∷ rest) asked number answer come = (come.0, come.1, gave_by_number rest asked (number + 1) answer come.2)

  -- Finitely many turns are asked for.
  abbrev Finishes : Policy → A → Type 0
  Finishes policy args =
      (turns : List (Evaluated A O)) × (asked : DriverRequest O) × GaveByNumber out next 1 turns × Drives m (start args policy) turns asked

  finishes_if_answered :
      (policy : Policy) (args : A) → HasTurn policy
      → (answer : Answer (Unit {0}) ℕ O) × IsAnswer tt turn_on m policy args 1 answer → Finishes policy args
  finishes_if_answered policy args has found =
      let is = found.1 in
      (is.turns, is.asked, gave_by_number is.turns is.asked 1 found.0 is.come_to, (drivers_follow_the_rule m policy args is.turns is.asked has).1 is.by_rule)

  -- Where no turn is left before the first, that one is the last.
  finishes_at_once : (args : A) (asked_for : Option A) → next 1 ≡ asked_for → Finishes (Stop 0) args
  finishes_at_once args None is =
      (record { args = args; out = out 1; next = None } ∷ [], Out (out 1), (refl, sym is, tt), (refl, λ e. cc, (start args (Stop 0), refl)))
  finishes_at_once args (Some asked_for) is =
      (record { args = args; out = out 1; next = Some asked_for } ∷ [], OutOfFuel, (refl, sym is, tt), (refl, λ e. cc, (start args (Stop 0), refl)))

pub drivers_end : {A O : Type 0} (Fits : A → Type 0) → DriversEnd A O Fits
drivers_end Fits m rank (Stop zero) args out next keeps can fits next_fits = finishes_at_once m out next args (next 1) refl
drivers_end Fits m rank (Stop (suc turns)) args out next keeps can fits next_fits =
    finishes_if_answered m out next (Stop (suc turns)) args (omega arith)
    (stopped_answers_exist m (suc turns) tt (turn_on m out next) args 1 (omega arith))
drivers_end Fits m rank (Widen unroll delay) args out next keeps can fits next_fits =
    finishes_if_answered m out next (Widen unroll delay) args tt
    (widened_answers_exist Fits m unroll delay tt (turn_on m out next) rank args 1 keeps can (λ args number fits. next_fits number) fits)

-- The turns of an activation by their numbers.
use Rattle.std.proofs.Common.{◌≡◌, ℕ, zero, suc, ◌+◌, List, [], ◌∷◌, Option, None, Some, arith, sym, subst}
use Rattle.std.specs.Prelude.{IsSomeAnd, slice_get}
use Rattle.support_tail_fixpoint.specs.declared.driver_request.DriverRequest.{DriverRequest}
use Rattle.support_tail_fixpoint.specs.declared.policy.Policy.{Policy}
use Rattle.support_tail_fixpoint.specs.Laws.{TurnsAreInOrder}
use Rattle.support_tail_fixpoint.specs.Moves.{Moves}
use Rattle.support_tail_fixpoint.specs.Rule.{AreTurns, Ends, Evaluated, Follows}
use Rattle.support_tail_fixpoint.specs.Turns.{turn_at}

module _ {A O : Type 0} (m : Moves A O) (policy : Policy) (leaves : Option O) (asked : DriverRequest O) where
  -- a turn follows another
  abbrev IsNext : ℕ → Evaluated A O → Evaluated A O → Type 0
  IsNext number turn later = IsSomeAnd turn.next (λ next. Follows m policy number turn.args next later.args)

  first_on : (number : ℕ) (args : A) (turns : List (Evaluated A O)) → AreTurns m policy leaves asked number args turns
      → IsSomeAnd (slice_get turns 0) (λ turn. turn.args ≡ args)
  first_on number args [] are = absurd are
  first_on number args (turn ∷ []) are = are.0
  first_on number args (turn ∷ (later ∷ rest)) are = are.0

  -- of turns from a number on, the one at a place and the next
  follows_at : (number at : ℕ) (args : A) (turns : List (Evaluated A O)) (place : ℕ) (turn later : Evaluated A O) → AreTurns m policy leaves asked number args turns
      → at ≡ number + place → slice_get turns place ≡ Some turn → slice_get turns (suc place) ≡ Some later → IsNext at turn later
  follows_at number at args [] place turn later are here is after = absurd are
  follows_at number at args (first ∷ []) place turn later are here is after = cc
  follows_at number at args (first ∷ (second ∷ rest)) zero turn later are here is after =
      let same : first ≡ turn = cc in
      let next : second ≡ later = cc in
      let number_is : number ≡ at = omega (arith, here) in
      rw (sym same, sym next, sym number_is) are.1
  follows_at number at args (first ∷ (second ∷ rest)) (suc place) turn later are here is after =
      follows_at (number + 1) at second.args (second ∷ rest) place turn later are.2 (omega (arith, here)) is after

  -- the one at a place, after which there is none
  ends_at : (number at : ℕ) (args : A) (turns : List (Evaluated A O)) (place : ℕ) (turn : Evaluated A O) → AreTurns m policy leaves asked number args turns
      → at ≡ number + place → slice_get turns place ≡ Some turn → slice_get turns (suc place) ≡ None → Ends m policy at turn.args turn.next leaves asked
  ends_at number at args [] place turn are here is after = absurd are
  ends_at number at args (first ∷ []) zero turn are here is after =
      let same : first ≡ turn = cc in
      let number_is : number ≡ at = omega (arith, here) in
      rw (sym same, sym number_is) are.1
  ends_at number at args (first ∷ []) (suc place) turn are here is after = cc
  ends_at number at args (first ∷ (second ∷ rest)) zero turn are here is after = cc
  ends_at number at args (first ∷ (second ∷ rest)) (suc place) turn are here is after =
      ends_at (number + 1) at second.args (second ∷ rest) place turn are.2 (omega (arith, here)) is after

  follows_number : (args : A) (turns : List (Evaluated A O)) (number : ℕ) (turn later : Evaluated A O) → AreTurns m policy leaves asked 1 args turns
      → turn_at turns number ≡ Some turn → turn_at turns (number + 1) ≡ Some later → IsNext number turn later
  follows_number args turns zero turn later are is after = cc
  follows_number args turns (suc place) turn later are is after = follows_at 1 (suc place) args turns place turn later are (omega arith) is (subst (λ k. turn_at turns k ≡ Some later) (let e : suc place + 1 ≡ suc (suc place) = omega arith in e) after)

  ends_number : (args : A) (turns : List (Evaluated A O)) (number : ℕ) (turn : Evaluated A O) → AreTurns m policy leaves asked 1 args turns
      → turn_at turns number ≡ Some turn → turn_at turns (number + 1) ≡ None → Ends m policy number turn.args turn.next leaves asked
  ends_number args turns zero turn are is after = cc
  ends_number args turns (suc place) turn are is after = ends_at 1 (suc place) args turns place turn are (omega arith) is (subst (λ k. turn_at turns k ≡ None) (let e : suc place + 1 ≡ suc (suc place) = omega arith in e) after)

pub turns_are_in_order : {A O : Type 0} → TurnsAreInOrder A O
turns_are_in_order m policy args turns asked are = record {
  first = first_on m policy _ asked 1 args turns are;
  follows = λ number turn later is after. follows_number m policy _ asked args turns number turn later are is after;
  ends = λ number turn is after. ends_number m policy _ asked args turns number turn are is after;
}

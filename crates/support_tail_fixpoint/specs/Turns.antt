-- What is said of the turns of an activation.
use Rattle.std.specs.Prelude.{◌≡◌, ◌⊎◌, ℕ, zero, suc, ◌+◌, ◌<◌, List, map, Option, None, Some, Contains, slice_get, IsTrue, IfSome, IsSomeAnd}
use Rattle.std.specs.List.{last_or}
use Rattle.support_tail_fixpoint.specs.declared.driver_request.DriverRequest.{DriverRequest}
use Rattle.support_tail_fixpoint.specs.declared.policy.Policy.{Policy}
use Rattle.support_tail_fixpoint.specs.Leaves.{all_leaves}
use Rattle.support_tail_fixpoint.specs.Moves.{Moves}
use Rattle.support_tail_fixpoint.specs.Rule.{Ends, Evaluated, Follows}

-- the turn of a number, if there is one: the first is turn number 1
abbrev pub turn_at : {A O : Type 0} → List (Evaluated A O) → ℕ → Option (Evaluated A O)
turn_at turns zero = None
turn_at turns (suc before) = slice_get turns before

-- The first turn is on the arguments, each other follows the turn before it, and the last ends the activation.
pub record AreInOrder {A O : Type 0} (m : Moves A O) (policy : Policy) (args : A) (turns : List (Evaluated A O)) (asked : DriverRequest O) : Type 0 where
  pub first : IsSomeAnd (turn_at turns 1) (λ turn. turn.args ≡ args)
  pub follows : (number : ℕ) (turn later : Evaluated A O) → turn_at turns number ≡ Some turn → turn_at turns (number + 1) ≡ Some later
      → IsSomeAnd turn.next (λ next. Follows m policy number turn.args next later.args)
  pub ends : (number : ℕ) (turn : Evaluated A O) → turn_at turns number ≡ Some turn → turn_at turns (number + 1) ≡ None
      → Ends m policy number turn.args turn.next (all_leaves m (map (λ turn. turn.out) turns)) asked

-- The arguments that a turn asks for fit.
abbrev pub NextFits : {A O : Type 0} → (A → Type 0) → Evaluated A O → Type 0
NextFits Fits turn = IfSome turn.next Fits

-- The leaves of a turn fit.
abbrev pub LeavesFit : {A O : Type 0} → (O → Type 0) → Evaluated A O → Type 0
LeavesFit Fits turn = IfSome turn.out Fits

-- A turn is on arguments that fit, and asks for such.
abbrev pub TurnFits : {A O : Type 0} → (A → Type 0) → Evaluated A O → Type 0
TurnFits Fits turn = Fits turn.args × NextFits Fits turn

-- Arguments absorb those of a turn, and those that the turn asks for.
abbrev pub AbsorbsTurn : {A O : Type 0} → Moves A O → A → Evaluated A O → Type 0
AbsorbsTurn m args turn = IsTrue (m.absorbs args turn.args) × IfSome turn.next (λ next. IsTrue (m.absorbs args next))

-- The arguments of the last turn fit, and absorb that turn and each one past the first `unroll`.
pub record LastAbsorbs {A O : Type 0} (m : Moves A O) (Fits : A → Type 0) (unroll : ℕ) (turns : List (Evaluated A O)) : Type 0 where
  pub last : Evaluated A O
  pub is_last : last_or None turns ≡ Some last
  pub fits : Fits last.args
  pub itself : AbsorbsTurn m last.args last
  pub past : (number : ℕ) (turn : Evaluated A O) → unroll < number → turn_at turns number ≡ Some turn → AbsorbsTurn m last.args turn

-- The arguments of one of the turns fit, and are these or absorb them.
pub record AreMet {A O : Type 0} (m : Moves A O) (Fits : A → Type 0) (turns : List (Evaluated A O)) (args : A) : Type 0 where
  pub turn : Evaluated A O
  pub is_one : Contains turns turn
  pub fits : Fits turn.args
  pub meets : (turn.args ≡ args) ⊎ IsTrue (m.absorbs turn.args args)

-- The rule of an activation's turns: which lists of turns are right.
use Rattle.std.specs.Prelude.{◌≡◌, ℕ, ◌+◌, ◌<◌, ◌≤◌, true, false, List, [], ◌∷◌, Option, None, Some, map, IsSomeAnd}
use Rattle.support_tail_fixpoint.specs.declared.driver_request.DriverRequest.{DriverRequest}
use Rattle.support_tail_fixpoint.specs.declared.driver_request.DriverRequest.TheVariants.{Out, OutOfFuel}
use Rattle.support_tail_fixpoint.specs.declared.policy.Policy.{Policy}
use Rattle.support_tail_fixpoint.specs.declared.policy.Policy.TheVariants.{Stop, Widen}
use Rattle.support_tail_fixpoint.specs.Leaves.{all_leaves}
use Rattle.support_tail_fixpoint.specs.Moves.{Moves}

-- A turn that was evaluated: its arguments, its joined leaves, and the joined next arguments.
pub record Evaluated (A O : Type 0) : Type 0 where
  pub args : A
  pub out : Option O
  pub next : Option A

-- `new` follows a turn under `Widen`, which was evaluated on `args` and asks for `next`. Turns are
-- numbered from 1.
pub record FollowsWidening {A O : Type 0} (m : Moves A O) (unroll delay number : ℕ) (args next new : A) : Type 0 where
  pub replaced : number ≤ unroll → new ≡ next
  pub not_absorbed : unroll < number → m.absorbs args next ≡ false
  pub joined : unroll < number → number ≤ unroll + delay → new ≡ m.join_args args next
  pub widened : unroll + delay < number → new ≡ m.widen_args args next

-- The arguments `new` follow a turn that was evaluated on `args` and asks for `next`.
abbrev pub Follows : {A O : Type 0} → Moves A O → Policy → ℕ → A → A → A → Type 0
Follows m (Stop turns) number args next new = (number < turns) × (new ≡ next)
Follows m (Widen unroll delay) number args next new = FollowsWidening m unroll delay number args next new

-- A turn ends the activation: `leaves` are those of all turns, and `asked` is what is answered.
abbrev pub Ends : {A O : Type 0} → Moves A O → Policy → ℕ → A → Option A → Option O → DriverRequest O → Type 0
Ends m policy number args None leaves asked = asked ≡ Out leaves
Ends m (Stop turns) number args (Some next) leaves asked = (number ≡ turns) × (asked ≡ OutOfFuel)
Ends m (Widen unroll delay) number args (Some next) leaves asked =
    (unroll < number) × (m.absorbs args next ≡ true) × (asked ≡ Out leaves)

-- The turns from a number on: the first is on `args`, each other on arguments that follow the turn
-- before it, and the last ends the activation with `asked`, where `leaves` are those of all turns.
abbrev pub AreTurns : {A O : Type 0} → Moves A O → Policy → Option O → DriverRequest O → ℕ → A → List (Evaluated A O) → Type 0
AreTurns m policy leaves asked number args [] = ⊥
AreTurns m policy leaves asked number args (turn ∷ []) =
    (turn.args ≡ args) × Ends m policy number turn.args turn.next leaves asked
AreTurns m policy leaves asked number args (turn ∷ (later ∷ rest)) =
    (turn.args ≡ args)
    × IsSomeAnd turn.next (λ next. Follows m policy number turn.args next later.args)
    × AreTurns m policy leaves asked (number + 1) later.args (later ∷ rest)

-- These are the turns of an activation on `args`, and `asked` is what is answered to the last.
abbrev pub IsActivation : {A O : Type 0} → Moves A O → Policy → A → List (Evaluated A O) → DriverRequest O → Type 0
IsActivation m policy args turns asked = AreTurns m policy (all_leaves m (map (λ turn. turn.out) turns)) asked 1 args turns

-- How an activation stands, and what a turn makes of it.
use Rattle.std.specs.Prelude.{◌≡◌, ◌-◌, ◌≤◌, Bool, true, Option, None, Some, IfSome, nat_lt, if◌then◌else◌}
use Rattle.support_tail_fixpoint.specs.declared.driver_request.DriverRequest.{DriverRequest}
use Rattle.support_tail_fixpoint.specs.declared.driver_request.DriverRequest.TheVariants.{Turn, Out, OutOfFuel}
use Rattle.support_tail_fixpoint.specs.declared.after.After.{After}
use Rattle.support_tail_fixpoint.specs.declared.after.After.TheVariants.{Another, Ended, TooDeep}
use Rattle.support_tail_fixpoint.specs.declared.policy.Policy.{Policy}
use Rattle.support_tail_fixpoint.specs.declared.policy.Policy.TheVariants.{Stop, Widen}
use Rattle.support_tail_fixpoint.specs.Meaning.{Meaning, ArgsFit, OutFits}
use Rattle.support_tail_fixpoint.specs.Moves.{Moves}
use Rattle.support_tail_fixpoint.specs.Leaves.{join_leaves}

-- An activation between two turns.
pub record Activation (A O : Type 0) : Type 0 where
  -- whether it is new, or its last answer was `Turn`
  pub running : Bool
  -- what is left of its policy: under `Stop` the turns, this one included; under `Widen` the turns
  -- whose arguments are replaced, and the joins
  pub left : Policy
  -- the arguments of the present turn
  pub args : A
  -- the join of the leaves of the turns before it
  pub leaves : Option O

-- an activation before its first turn
abbrev pub start : {A O : Type 0} → A → Policy → Activation A O
start args policy = record { running = true; left = policy; args = args; leaves = None }

-- Under `Stop` there is a turn.
abbrev pub HasTurn : Policy → Type 0
HasTurn (Stop turns) = 1 ≤ turns
HasTurn (Widen unroll delay) = Unit {0}

-- what follows a turn on `args` that asks for `next`
abbrev pub after_next : {A O : Type 0} → Moves A O → Policy → A → A → After A
after_next m (Stop turns) args next = if nat_lt 1 turns then Another (Stop (turns - 1)) next else TooDeep
after_next m (Widen unroll delay) args next =
    if nat_lt 0 unroll then Another (Widen (unroll - 1) delay) next
    else if m.absorbs args next then Ended
    else if nat_lt 0 delay then Another (Widen 0 (delay - 1)) (m.join_args args next)
    else Another (Widen 0 0) (m.widen_args args next)

-- what follows a turn that may ask for another
abbrev pub after_turn : {A O : Type 0} → Moves A O → Policy → A → Option A → After A
after_turn m left args None = Ended
after_turn m left args (Some next) = after_next m left args next

-- What is answered to a turn, where `leaves` are those of all turns up to it, and the activation
-- where another turn is asked for.
abbrev pub AnswersAfter : {A O : Type 0} → After A → Option O → DriverRequest O → Activation A O → Type 0
AnswersAfter (Another left args) leaves asked new =
    (asked ≡ Turn) × (new ≡ record { running = true; left = left; args = args; leaves = leaves })
AnswersAfter Ended leaves asked new = asked ≡ Out leaves
AnswersAfter TooDeep leaves asked new = asked ≡ OutOfFuel

-- What is answered to a turn that gave the leaves `out` and the next arguments `next`, and the
-- activation where another turn is asked for.
abbrev pub Answers : {A O : Type 0} → Moves A O → Activation A O → Option O → Option A → DriverRequest O → Activation A O → Type 0
Answers m now out next asked new = AnswersAfter (after_turn m now.left now.args next) (join_leaves m now.leaves out) asked new

-- What an activation holds fits.
pub record Fits {A O : Type 0} (m : Meaning A O) (now : Activation A O) : Type 0 where
  pub args : ArgsFit m now.args
  pub leaves : IfSome now.leaves (OutFits m)

-- Where an activation ends with `Out`, its leaves fit.
abbrev pub ResultFits : {A O : Type 0} → Meaning A O → DriverRequest O → Type 0
ResultFits m Turn = Unit {0}
ResultFits m (Out leaves) = IfSome leaves (OutFits m)
ResultFits m OutOfFuel = Unit {0}

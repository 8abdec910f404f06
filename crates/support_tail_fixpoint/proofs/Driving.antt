-- A driver's turns are the turns of the rule.
use Rattle.std.proofs.Common.{◌≡◌, ℕ, ◌+◌, true, List, [], ◌∷◌, Option, None, Some, arith, refl, subst}
use Rattle.std.specs.Prelude.{fold, map, IsSomeAnd}
use Rattle.support_tail_fixpoint.specs.declared.driver_request.DriverRequest.{DriverRequest}
use Rattle.support_tail_fixpoint.specs.declared.driver_request.DriverRequest.TheVariants.{Turn}
use Rattle.support_tail_fixpoint.specs.declared.policy.Policy.{Policy}
use Rattle.support_tail_fixpoint.specs.declared.policy.Policy.TheVariants.{Stop, Widen}
use Rattle.support_tail_fixpoint.specs.Activation.{Activation, AnswersAfter, HasTurn, after_turn, start}
use Rattle.support_tail_fixpoint.specs.Driving.{Drives}
use Rattle.support_tail_fixpoint.specs.Laws.{DriversFollowTheRule}
use Rattle.support_tail_fixpoint.specs.Moves.{Moves}
use Rattle.support_tail_fixpoint.specs.Rule.{AreTurns, Evaluated, Follows}
use Rattle.support_tail_fixpoint.specs.Leaves.{join_leaves}
use Rattle.support_tail_fixpoint.proofs.Steps.{IsLeft, answers_if_ends, asks_if_follows, ends_if_answers, follows_if_asks, one_less, one_less_left}

-- the join of leaves and of those of further turns
abbrev with_leaves : {A O : Type 0} → Moves A O → Option O → List (Evaluated A O) → Option O
with_leaves m leaves turns = fold (join_leaves m) leaves (map (λ turn. turn.out) turns)

-- What a turn that is answered by `Turn` has follow it.
asked_follows :
    {A O : Type 0} (m : Moves A O) (policy : Policy) (number : ℕ) (left : Policy) (args : A) (next : Option A) (leaves : Option O)
    (new : Activation A O)
    → IsLeft policy number left → AnswersAfter (after_turn m left args next) leaves Turn new
    → IsSomeAnd next (λ next. Follows m policy number args next new.args) × IsLeft policy (number + 1) new.left × (new.leaves ≡ leaves)
asked_follows m policy number left args None leaves new is asks = cc
asked_follows m policy number left args (Some next) leaves new is asks =
    let follows = follows_if_asks m policy number left args next leaves new is asks in
    (follows.0, (rw follows.1 (one_less_left m policy number left args next new.args is follows.0)), follows.2)

-- Where arguments follow, the driver asks for them.
follows_asked :
    {A O : Type 0} (m : Moves A O) (policy : Policy) (number : ℕ) (left : Policy) (args : A) (next : Option A) (leaves : Option O) (new : A)
    → IsLeft policy number left → IsSomeAnd next (λ next. Follows m policy number args next new)
    → AnswersAfter (after_turn m left args next) leaves Turn (record { running = true; left = one_less left; args = new; leaves = leaves })
    × IsLeft policy (number + 1) (one_less left)
follows_asked m policy number left args None leaves new is follows = absurd follows
follows_asked m policy number left args (Some next) leaves new is follows =
    (rw (asks_if_follows m policy number left args next new is follows) (refl, refl), one_less_left m policy number left args next new is follows)

-- The first turn is on the arguments that the driver tells.
drives-first :
    {A O : Type 0} (m : Moves A O) (now : Activation A O) (turn : Evaluated A O) (rest : List (Evaluated A O)) (asked : DriverRequest O)
    → Drives m now (turn ∷ rest) asked → turn.args ≡ now.args
drives-first m now turn [] asked drives = drives.0
drives-first m now turn (later ∷ rest) asked drives = drives.0

rule_if_drives :
    {A O : Type 0} (m : Moves A O) (policy : Policy) (number : ℕ) (now : Activation A O) (turns : List (Evaluated A O)) (asked : DriverRequest O)
    → IsLeft policy number now.left → Drives m now turns asked
    → AreTurns m policy (with_leaves m now.leaves turns) asked number now.args turns
rule_if_drives m policy number now [] asked is drives = drives
rule_if_drives m policy number now (turn ∷ []) asked is drives = (
  drives.0,
  rw drives.0 (ends_if_answers m policy number now.left now.args turn.next (join_leaves m now.leaves turn.out) asked drives.2.0 is drives.1 drives.2.1),
)
rule_if_drives {A} {O} m policy number now (turn ∷ (later ∷ rest)) asked is drives =
    let new = drives.1.0 in
    let follows = asked_follows m policy number now.left now.args turn.next (join_leaves m now.leaves turn.out) new is drives.1.1 in
    let same = drives-first m new later rest asked drives.1.2 in
    let more = rule_if_drives m policy (number + 1) new (later ∷ rest) asked follows.1 drives.1.2 in
    let leaves_are : Option O → Type 0 = λ leaves. AreTurns m policy (with_leaves m leaves (later ∷ rest)) asked (number + 1) new.args (later ∷ rest) in
    (drives.0, rw (drives.0, same) follows.0, rw same (subst leaves_are follows.2 more))

drives_if_rule :
    {A O : Type 0} (m : Moves A O) (policy : Policy) (number : ℕ) (now : Activation A O) (turns : List (Evaluated A O)) (asked : DriverRequest O)
    → IsLeft policy number now.left → AreTurns m policy (with_leaves m now.leaves turns) asked number now.args turns
    → Drives m now turns asked
drives_if_rule m policy number now [] asked is are = are
drives_if_rule m policy number now (turn ∷ []) asked is are =
    let ends = rw are.0 at are.1 in
    let answers = answers_if_ends m policy number now.left now.args turn.next (join_leaves m now.leaves turn.out) asked now is ends in
    (are.0, answers.0, (now, answers.1))
drives_if_rule m policy number now (turn ∷ (later ∷ rest)) asked is are =
    let leaves = join_leaves m now.leaves turn.out in
    let follows = rw are.0 at are.1 in
    let follows_on = follows_asked m policy number now.left now.args turn.next leaves later.args is follows in (
      are.0,
      (
        record { running = true; left = one_less now.left; args = later.args; leaves = leaves },
        follows_on.0,
        drives_if_rule m policy (number + 1) (record { running = true; left = one_less now.left; args = later.args; leaves = leaves }) (later ∷ rest) asked follows_on.1 are.2,
      ),
    )

-- the whole policy is left before the first turn
whole_left : (policy : Policy) → HasTurn policy → IsLeft policy 1 policy
whole_left (Stop turns) has = (refl, has)
whole_left (Widen unroll delay) has = (omega arith, omega arith)

pub drivers_follow_the_rule : {A O : Type 0} → DriversFollowTheRule A O
drivers_follow_the_rule m policy args turns asked has =
    let is = whole_left policy has in
    (rule_if_drives m policy 1 (start args policy) turns asked is, drives_if_rule m policy 1 (start args policy) turns asked is)

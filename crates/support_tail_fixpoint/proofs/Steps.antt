-- One step of a driver is one step of the rule.
use Rattle.std.proofs.Common.{◌≡◌, ◌≢◌, ℕ, ◌+◌, ◌-◌, ◌≤◌, Bool, true, false, Option, None, Some, min, arith, refl, ap, nat_lt, if◌then◌else◌}
use Rattle.std.proofs.lemmas.Bool.Decides.{nat_tests}
use Rattle.support_tail_fixpoint.specs.declared.driver_request.DriverRequest.{DriverRequest}
use Rattle.support_tail_fixpoint.specs.declared.driver_request.DriverRequest.TheVariants.{Turn, Out, OutOfFuel}
use Rattle.support_tail_fixpoint.specs.declared.after.After.TheVariants.{Another, Ended, TooDeep}
use Rattle.support_tail_fixpoint.specs.declared.policy.Policy.{Policy}
use Rattle.support_tail_fixpoint.specs.declared.policy.Policy.TheVariants.{Stop, Widen}
use Rattle.support_tail_fixpoint.specs.Activation.{Activation, AnswersAfter, after_turn, after_next}
use Rattle.support_tail_fixpoint.specs.Moves.{Moves}
use Rattle.support_tail_fixpoint.specs.Rule.{Follows, Ends}

-- So much of the policy is left before the turn of a number.
abbrev pub IsLeft : Policy → ℕ → Policy → Type 0
IsLeft (Stop turns) number (Stop left) = (left + number ≡ turns + 1) × (1 ≤ left)
IsLeft (Stop turns) number (Widen u d) = ⊥
IsLeft (Widen unroll delay) number (Stop left) = ⊥
IsLeft (Widen unroll delay) number (Widen u d) = (u ≡ unroll + 1 - number) × (d ≡ min delay (unroll + delay + 1 - number))

-- what is left of a policy after one more turn
abbrev pub one_less : Policy → Policy
one_less (Stop turns) = Stop (turns - 1)
one_less (Widen unroll delay) = if nat_lt 0 unroll then Widen (unroll - 1) delay else Widen 0 (delay - 1)

pub one_less_left :
    {A O : Type 0} (m : Moves A O) (policy : Policy) (number : ℕ) (left : Policy) (args next new : A)
    → IsLeft policy number left → Follows m policy number args next new → IsLeft policy (number + 1) (one_less left)
one_less_left m (Stop turns) number (Stop left) args next new is follows = (omega arith, omega arith)
one_less_left m (Stop turns) number (Widen u d) args next new is follows = absurd is
one_less_left m (Widen unroll delay) number (Stop left) args next new is follows = absurd is
one_less_left m (Widen unroll delay) number (Widen u d) args next new is follows =
    elim (nat_lt 0 u) as (λ b. nat_lt 0 u ≡ b → IsLeft (Widen unroll delay) (number + 1) (if b then Widen (u - 1) d else Widen 0 (d - 1)))
    [ true ↦ λ e. (grind (arith, nat_tests), grind (arith, nat_tests)) | false ↦ λ e. (grind (arith, nat_tests), grind (arith, nat_tests)) ] refl

-- Where the rule has other arguments follow, they are asked for.
pub asks_if_follows :
    {A O : Type 0} (m : Moves A O) (policy : Policy) (number : ℕ) (left : Policy) (args next new : A)
    → IsLeft policy number left → Follows m policy number args next new → after_next m left args next ≡ Another (one_less left) new
asks_if_follows m (Stop turns) number (Stop left) args next new is follows = grind (arith, nat_tests)
asks_if_follows m (Stop turns) number (Widen u d) args next new is follows = absurd is
asks_if_follows m (Widen unroll delay) number (Stop left) args next new is follows = absurd is
asks_if_follows m (Widen unroll delay) number (Widen u d) args next new is follows = grind (arith, nat_tests)

stop_asks :
    {A O : Type 0} (m : Moves A O) (turns number left : ℕ) (more : Bool) (args next : A) (leaves : Option O) (new : Activation A O)
    → nat_lt 1 left ≡ more → IsLeft (Stop turns) number (Stop left)
    → AnswersAfter (if more then Another (Stop (left - 1)) next else TooDeep) leaves Turn new
    → Follows m (Stop turns) number args next new.args × (new.left ≡ Stop (left - 1)) × (new.leaves ≡ leaves)
stop_asks m turns number left true args next leaves new e is asks =
    rw asks.1 ((grind (arith, nat_tests), refl), refl, refl)
stop_asks m turns number left false args next leaves new e is asks = cc

widen_asks :
    {A O : Type 0} (m : Moves A O) (unroll delay number u d : ℕ) (more absorbed joins : Bool) (args next : A) (leaves : Option O) (new : Activation A O)
    → nat_lt 0 u ≡ more → m.absorbs args next ≡ absorbed → nat_lt 0 d ≡ joins → IsLeft (Widen unroll delay) number (Widen u d)
    → AnswersAfter
    (if more then Another (Widen (u - 1) d) next
    else if absorbed then Ended
    else if joins then Another (Widen 0 (d - 1)) (m.join_args args next)
    else Another (Widen 0 0) (m.widen_args args next))
    leaves Turn new
    → Follows m (Widen unroll delay) number args next new.args
    × (new.left ≡ (if more then Widen (u - 1) d else Widen 0 (d - 1))) × (new.leaves ≡ leaves)
widen_asks m unroll delay number u d true absorbed joins args next leaves new e a j is asks =
    rw asks.1 (
      record {
        replaced = λ h. refl;
        not_absorbed = λ h. absurd (grind (arith, nat_tests));
        joined = λ h k. absurd (grind (arith, nat_tests));
        widened = λ h. absurd (grind (arith, nat_tests));
      },
      refl,
      refl,
    )
widen_asks m unroll delay number u d false true joins args next leaves new e a j is asks = cc
widen_asks m unroll delay number u d false false true args next leaves new e a j is asks =
    rw asks.1 (
      record {
        replaced = λ h. absurd (grind (arith, nat_tests));
        not_absorbed = λ h. a;
        joined = λ h k. refl;
        widened = λ h. absurd (grind (arith, nat_tests));
      },
      refl,
      refl,
    )
widen_asks m unroll delay number u d false false false args next leaves new e a j is asks =
    let none : d ≡ 0 = grind (arith, nat_tests) in
    rw asks.1 (
      record {
        replaced = λ h. absurd (grind (arith, nat_tests));
        not_absorbed = λ h. a;
        joined = λ h k. absurd (grind (arith, nat_tests));
        widened = λ h. refl;
      },
      ap (λ k. Widen 0 k) (omega arith),
      refl,
    )

-- What is asked for follows by the rule.
pub follows_if_asks :
    {A O : Type 0} (m : Moves A O) (policy : Policy) (number : ℕ) (left : Policy) (args next : A) (leaves : Option O) (new : Activation A O)
    → IsLeft policy number left → AnswersAfter (after_next m left args next) leaves Turn new
    → Follows m policy number args next new.args × (new.left ≡ one_less left) × (new.leaves ≡ leaves)
follows_if_asks m (Stop turns) number (Stop left) args next leaves new is asks =
    stop_asks m turns number left (nat_lt 1 left) args next leaves new refl is asks
follows_if_asks m (Stop turns) number (Widen u d) args next leaves new is asks = absurd is
follows_if_asks m (Widen unroll delay) number (Stop left) args next leaves new is asks = absurd is
follows_if_asks m (Widen unroll delay) number (Widen u d) args next leaves new is asks =
    widen_asks m unroll delay number u d (nat_lt 0 u) (m.absorbs args next) (nat_lt 0 d) args next leaves new refl refl refl is asks

stop_ends :
    {A O : Type 0} (m : Moves A O) (turns number left : ℕ) (more : Bool) (args next : A) (leaves : Option O) (asked : DriverRequest O) (new : Activation A O)
    → nat_lt 1 left ≡ more → IsLeft (Stop turns) number (Stop left) → asked ≢ Turn
    → AnswersAfter (if more then Another (Stop (left - 1)) next else TooDeep) leaves asked new
    → Ends m (Stop turns) number args (Some next) leaves asked
stop_ends m turns number left true args next leaves asked new e is ends answers = absurd (ends answers.0)
stop_ends m turns number left false args next leaves asked new e is ends answers = (grind (arith, nat_tests), answers)

widen_ends :
    {A O : Type 0} (m : Moves A O) (unroll delay number u d : ℕ) (more absorbed joins : Bool) (args next : A) (leaves : Option O) (asked : DriverRequest O)
    (new : Activation A O)
    → nat_lt 0 u ≡ more → m.absorbs args next ≡ absorbed → nat_lt 0 d ≡ joins → IsLeft (Widen unroll delay) number (Widen u d) → asked ≢ Turn
    → AnswersAfter
    (if more then Another (Widen (u - 1) d) next
    else if absorbed then Ended
    else if joins then Another (Widen 0 (d - 1)) (m.join_args args next)
    else Another (Widen 0 0) (m.widen_args args next))
    leaves asked new
    → Ends m (Widen unroll delay) number args (Some next) leaves asked
widen_ends m unroll delay number u d true absorbed joins args next leaves asked new e a j is ends answers = absurd (ends answers.0)
widen_ends m unroll delay number u d false true joins args next leaves asked new e a j is ends answers = (grind (arith, nat_tests), a, answers)
widen_ends m unroll delay number u d false false true args next leaves asked new e a j is ends answers = absurd (ends answers.0)
widen_ends m unroll delay number u d false false false args next leaves asked new e a j is ends answers = absurd (ends answers.0)

-- Where something else is answered, the turn ends the activation with it.
pub ends_if_answers :
    {A O : Type 0} (m : Moves A O) (policy : Policy) (number : ℕ) (left : Policy) (args : A) (next : Option A) (leaves : Option O) (asked : DriverRequest O)
    (new : Activation A O)
    → IsLeft policy number left → asked ≢ Turn → AnswersAfter (after_turn m left args next) leaves asked new
    → Ends m policy number args next leaves asked
ends_if_answers m policy number left args None leaves asked new is ends answers = answers
ends_if_answers m (Stop turns) number (Stop left) args (Some next) leaves asked new is ends answers =
    stop_ends m turns number left (nat_lt 1 left) args next leaves asked new refl is ends answers
ends_if_answers m (Stop turns) number (Widen u d) args (Some next) leaves asked new is ends answers = absurd is
ends_if_answers m (Widen unroll delay) number (Stop left) args (Some next) leaves asked new is ends answers = absurd is
ends_if_answers m (Widen unroll delay) number (Widen u d) args (Some next) leaves asked new is ends answers =
    widen_ends m unroll delay number u d (nat_lt 0 u) (m.absorbs args next) (nat_lt 0 d) args next leaves asked new refl refl refl is ends answers

-- Where the rule ends the activation, so does the driver, with the same answer.
pub answers_if_ends :
    {A O : Type 0} (m : Moves A O) (policy : Policy) (number : ℕ) (left : Policy) (args : A) (next : Option A) (leaves : Option O) (asked : DriverRequest O)
    (new : Activation A O)
    → IsLeft policy number left → Ends m policy number args next leaves asked
    → (asked ≢ Turn) × AnswersAfter (after_turn m left args next) leaves asked new
answers_if_ends m policy number left args None leaves asked new is ends = (λ e. cc, ends)
answers_if_ends m (Stop turns) number (Stop left) args (Some next) leaves asked new is ends = (
  λ e. let d : asked ≡ OutOfFuel = ends.1 in cc,
  (let e : nat_lt 1 left ≡ false = grind (arith, nat_tests) in rw e ends.1),
)
answers_if_ends m (Stop turns) number (Widen u d) args (Some next) leaves asked new is ends = absurd is
answers_if_ends m (Widen unroll delay) number (Stop left) args (Some next) leaves asked new is ends = absurd is
answers_if_ends m (Widen unroll delay) number (Widen u d) args (Some next) leaves asked new is ends = (
  λ e. let d : asked ≡ Out leaves = ends.2 in cc,
  (let e : nat_lt 0 u ≡ false = grind (arith, nat_tests) in rw (e, ends.1) ends.2),
)

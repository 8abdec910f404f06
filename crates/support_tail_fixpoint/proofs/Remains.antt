-- What remains of a driver's turns.
use Rattle.std.proofs.Common.{◌≡◌, ◌≢◌, ◌∙◌, List, [], ◌∷◌, Option, refl, subst, sym}
use Rattle.support_tail_fixpoint.specs.declared.after.After.{After}
use Rattle.support_tail_fixpoint.specs.declared.after.After.TheVariants.{Another, Ended, TooDeep}
use Rattle.support_tail_fixpoint.specs.declared.driver_request.DriverRequest.{DriverRequest}
use Rattle.support_tail_fixpoint.specs.declared.driver_request.DriverRequest.TheVariants.{Turn, Out, OutOfFuel}
use Rattle.support_tail_fixpoint.specs.Activation.{Activation, Answers, AnswersAfter, start}
use Rattle.support_tail_fixpoint.specs.Answer.{Answer, Yield, fails, gives, next_of, out_of}
use Rattle.support_tail_fixpoint.specs.Driving.{Drives, GoesOn, Remaining, RemainingAfter}
use Rattle.support_tail_fixpoint.specs.Evaluation.{ComeTo, EndsWith, Gave}
use Rattle.support_tail_fixpoint.specs.Laws.{AnswersAreDriven, AnswersAreOne, TurnsGoOn}
use Rattle.support_tail_fixpoint.specs.Moves.{Moves}
use Rattle.support_tail_fixpoint.specs.Rule.{Evaluated}
use Rattle.support_tail_fixpoint.proofs.Driving.{drivers_follow_the_rule}

-- One thing is answered.
same_answer :
    {A O : Type 0} (after : After A) (leaves : Option O) (x y : DriverRequest O) (new other : Activation A O)
    → AnswersAfter after leaves x new → AnswersAfter after leaves y other → x ≡ y
same_answer (Another left args) leaves x y new other h k = h.0 ∙ sym k.0
same_answer Ended leaves x y new other h k = h ∙ sym k
same_answer TooDeep leaves x y new other h k = h ∙ sym k

-- One activation is asked for.
same_activation :
    {A O : Type 0} (after : After A) (leaves : Option O) (new other : Activation A O)
    → AnswersAfter after leaves Turn new → AnswersAfter after leaves Turn other → new ≡ other
same_activation (Another left args) leaves new other h k = h.1 ∙ sym k.1
same_activation Ended leaves new other h k = cc
same_activation TooDeep leaves new other h k = cc

-- What is answered to a turn is answered to what it gave.
answers_yield :
    {A O : Type 0} (m : Moves A O) (now : Activation A O) (out : Option O) (next : Option A) (y : Option (Yield A O)) (asked : DriverRequest O) (new : Activation A O)
    → out ≡ out_of y → next ≡ next_of y → Answers m now out next asked new → Answers m now (out_of y) (next_of y) asked new
answers_yield m now out next y asked new out_is next_is answers =
    subst (λ z. Answers m now z (next_of y) asked new) out_is (subst (λ z. Answers m now out z asked new) next_is answers)

module _ {F S A O : Type 0} (m : Moves A O) (deep : F) (turn_on : A → S → Answer F S (Yield A O)) where
  abbrev GaveThen : List (Evaluated A O) → DriverRequest O → Answer F S (Yield A O) → Evaluated A O → Answer F S O → Type 0
  GaveThen rest asked given turn answer = Gave given turn (ComeTo deep turn_on rest asked) answer

  ended : (asked got : DriverRequest O) (new : Activation A O) (state : S) (answer : Answer F S O) → asked ≢ Turn → EndsWith deep asked state answer → got ≡ asked
      → RemainingAfter m deep turn_on got new state answer
  ended Turn got new state answer last ends same = absurd (last refl)
  ended (Out leaves) got new state answer last ends same = subst (λ z. RemainingAfter m deep turn_on z new state answer) (sym same) ends
  ended OutOfFuel got new state answer last ends same = subst (λ z. RemainingAfter m deep turn_on z new state answer) (sym same) ends

  -- the last turn
  last_goes_on : (now : Activation A O) (given : Answer F S (Yield A O)) (answer : Answer F S O) (turn : Evaluated A O) (asked : DriverRequest O)
      → asked ≢ Turn → ((new : Activation A O) × Answers m now turn.out turn.next asked new) → GaveThen [] asked given turn answer → GoesOn m deep turn_on now given answer
  last_goes_on now (fails f) answer turn asked last answers gave = gave.2
  last_goes_on now (gives y state) answer turn asked last answers gave = λ got new replies.
      ended asked got new state answer last gave.2
      (same_answer _ _ got asked new answers.0 replies (answers_yield m now turn.out turn.next y asked answers.0 gave.0 gave.1 answers.1))

  -- a turn before others
  turn_goes_on : (now : Activation A O) (given : Answer F S (Yield A O)) (answer : Answer F S O) (turn later : Evaluated A O) (rest : List (Evaluated A O)) (asked : DriverRequest O)
      → ((new : Activation A O) × Answers m now turn.out turn.next Turn new × Drives m new (later ∷ rest) asked)
      → GaveThen (later ∷ rest) asked given turn answer → GoesOn m deep turn_on now given answer
  turn_goes_on now (fails f) answer turn later rest asked drives gave = gave.2
  turn_goes_on now (gives y state) answer turn later rest asked drives gave = λ got new replies.
      let known = answers_yield m now turn.out turn.next y Turn drives.0 gave.0 gave.1 drives.1 in
      let is_turn : got ≡ Turn = same_answer _ _ got Turn new drives.0 replies known in
      let same : new ≡ drives.0 = same_activation _ _ new drives.0 (subst (λ z. Answers m now (out_of y) (next_of y) z new) is_turn replies) known in
      subst (λ z. RemainingAfter m deep turn_on z new state answer) (sym is_turn) (record {
        turns = later ∷ rest;
        asked = asked;
        drives = subst (λ z. Drives m z (later ∷ rest) asked) (sym same) drives.2;
        come_to = gave.2;
      })

  goes_on : (now : Activation A O) (state : S) (answer : Answer F S O) (turns : List (Evaluated A O)) (asked : DriverRequest O)
      → Drives m now turns asked → ComeTo deep turn_on turns asked state answer → GoesOn m deep turn_on now (turn_on now.args state) answer
  goes_on now state answer [] asked drives come = absurd drives
  goes_on now state answer (turn ∷ []) asked drives come =
      last_goes_on now (turn_on now.args state) answer turn asked drives.1 drives.2
      (subst (λ z. GaveThen [] asked (turn_on z state) turn answer) drives.0 come)
  goes_on now state answer (turn ∷ (later ∷ rest)) asked drives come =
      turn_goes_on now (turn_on now.args state) answer turn later rest asked drives.1
      (subst (λ z. GaveThen (later ∷ rest) asked (turn_on z state) turn answer) drives.0 come)

  -- ---- one answer
  same_ends : (asked : DriverRequest O) (new : Activation A O) (state : S) (answer other : Answer F S O) → asked ≢ Turn
      → EndsWith deep asked state answer → RemainingAfter m deep turn_on asked new state other → answer ≡ other
  same_ends Turn new state answer other last ends remains = absurd (last refl)
  same_ends (Out leaves) new state answer other last ends remains = ends ∙ sym remains
  same_ends OutOfFuel new state answer other last ends remains = ends ∙ sym remains

  one_last : (now : Activation A O) (given : Answer F S (Yield A O)) (answer other : Answer F S O) (turn : Evaluated A O) (asked : DriverRequest O)
      → asked ≢ Turn → ((new : Activation A O) × Answers m now turn.out turn.next asked new) → GaveThen [] asked given turn answer
      → GoesOn m deep turn_on now given other → answer ≡ other
  one_last now (fails f) answer other turn asked last answers gave on = gave.2 ∙ sym on
  one_last now (gives y state) answer other turn asked last answers gave on =
      same_ends asked answers.0 state answer other last gave.2
      (on asked answers.0 (answers_yield m now turn.out turn.next y asked answers.0 gave.0 gave.1 answers.1))

  one_answer : (now : Activation A O) (state : S) (answer other : Answer F S O) (turns : List (Evaluated A O)) (asked : DriverRequest O)
      → Drives m now turns asked → ComeTo deep turn_on turns asked state answer → Remaining m deep turn_on now state other → answer ≡ other
  one_answer now state answer other [] asked drives come remains = absurd drives
  one_answer now state answer other (turn ∷ []) asked drives come remains =
      one_last now (turn_on now.args state) answer other turn asked drives.1 drives.2
      (subst (λ z. GaveThen [] asked (turn_on z state) turn answer) drives.0 come)
      (goes_on now state other remains.turns remains.asked remains.drives remains.come_to)
  one_answer now state answer other (turn ∷ (later ∷ rest)) asked drives come remains =
      at_given (turn_on now.args state)
      (subst (λ z. GaveThen (later ∷ rest) asked (turn_on z state) turn answer) drives.0 come)
      (goes_on now state other remains.turns remains.asked remains.drives remains.come_to)
      (λ later_state come remains. one_answer drives.1.0 later_state answer other (later ∷ rest) asked drives.1.2 come remains)
    where
      at_given : (given : Answer F S (Yield A O)) → GaveThen (later ∷ rest) asked given turn answer → GoesOn m deep turn_on now given other
          → ((state : S) → ComeTo deep turn_on (later ∷ rest) asked state answer → Remaining m deep turn_on drives.1.0 state other → answer ≡ other) → answer ≡ other
      at_given (fails f) gave on more = gave.2 ∙ sym on
      at_given (gives y state) gave on more =
          more state gave.2 (on Turn drives.1.0 (answers_yield m now turn.out turn.next y Turn drives.1.0 gave.0 gave.1 drives.1.1))

pub turns_go_on : {F S A O : Type 0} → TurnsGoOn F S A O
turns_go_on m deep turn_on now state answer remains =
    goes_on m deep turn_on now state answer remains.turns remains.asked remains.drives remains.come_to

pub answers_are_driven : {F S A O : Type 0} → AnswersAreDriven F S A O
answers_are_driven m policy deep turn_on args state answer has = (
  λ h. record {
    turns = h.turns;
    asked = h.asked;
    drives = (drivers_follow_the_rule m policy args h.turns h.asked has).1 h.by_rule;
    come_to = h.come_to;
  },
  λ h. record {
    turns = h.turns;
    asked = h.asked;
    by_rule = (drivers_follow_the_rule m policy args h.turns h.asked has).0 h.drives;
    come_to = h.come_to;
  },
)

pub answers_are_one : {F S A O : Type 0} → AnswersAreOne F S A O
answers_are_one m policy deep turn_on args state answer other has h k =
    let first = (answers_are_driven m policy deep turn_on args state answer has).0 h in
    let second = (answers_are_driven m policy deep turn_on args state other has).0 k in
    one_answer m deep turn_on (start args policy) state answer other first.turns first.asked first.drives first.come_to second

-- ---- for a loop over a driver
module _ {F S A O : Type 0} (m : Moves A O) (deep : F) (turn_on : A → S → Answer F S (Yield A O)) (now : Activation A O) (state : S) (answer : Answer F S O)
    (remains : Remaining m deep turn_on now state answer) where
  -- A turn that fails is the answer.
  pub turn_failed : (f : F) → turn_on now.args state ≡ fails f → answer ≡ fails f
  turn_failed f is = subst (λ z. GoesOn m deep turn_on now z answer) is (turns_go_on m deep turn_on now state answer remains)

  -- What is left once a turn gave this, and was answered.
  pub turn_taken : (y : Option (Yield A O)) (later : S) (asked : DriverRequest O) (new : Activation A O) → turn_on now.args state ≡ gives y later
      → Answers m now (out_of y) (next_of y) asked new → RemainingAfter m deep turn_on asked new later answer
  turn_taken y later asked new is answers =
      let on : GoesOn m deep turn_on now (gives y later) answer = subst (λ z. GoesOn m deep turn_on now z answer) is (turns_go_on m deep turn_on now state answer remains) in
      on asked new answers

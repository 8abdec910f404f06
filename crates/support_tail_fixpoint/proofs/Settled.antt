-- What turns give settles an activation.
use Rattle.std.proofs.Common.{◌≡◌, ◌∙◌, ℕ, ◌+◌, List, [], ◌∷◌, Option, ap, subst, sym}
use Rattle.support_tail_fixpoint.specs.declared.after.After.{After}
use Rattle.support_tail_fixpoint.specs.declared.after.After.TheVariants.{Another, Ended, TooDeep}
use Rattle.support_tail_fixpoint.specs.declared.driver_request.DriverRequest.{DriverRequest}
use Rattle.support_tail_fixpoint.specs.declared.driver_request.DriverRequest.TheVariants.{Turn}
use Rattle.support_tail_fixpoint.specs.Activation.{Activation, Answers, AnswersAfter, start}
use Rattle.support_tail_fixpoint.specs.Driving.{Drives}
use Rattle.support_tail_fixpoint.specs.Moves.{Moves}
use Rattle.support_tail_fixpoint.specs.Rule.{Evaluated}
use Rattle.support_tail_fixpoint.proofs.Driving.{drivers_follow_the_rule}
use Rattle.support_tail_fixpoint.specs.DriverLaws.{ActivationsAreSettled, GaveByNumber}

same_turn : {A O : Type 0} (x y : Evaluated A O) → x.args ≡ y.args → x.out ≡ y.out → x.next ≡ y.next → x ≡ y
same_turn {A} {O} x y args out next =
    let by_args : A → Evaluated A O = λ a. record { args = a; out = x.out; next = x.next } in
    let by_out : Option O → Evaluated A O = λ o. record { args = y.args; out = o; next = x.next } in
    let by_next : Option A → Evaluated A O = λ n. record { args = y.args; out = y.out; next = n } in
    ap by_args args ∙ ap by_out out ∙ ap by_next next

-- One thing is answered.
same_answer :
    {A O : Type 0} (after : After A) (leaves : Option O) (x y : DriverRequest O) (new other : Activation A O)
    → AnswersAfter after leaves x new → AnswersAfter after leaves y other → x ≡ y
same_answer (Another left args) leaves x y new other h k = h.0 ∙ sym k.0
same_answer Ended leaves x y new other h k = h ∙ sym k
same_answer TooDeep leaves x y new other h k = h ∙ sym k

-- One activation is asked for.
same_activation :
    {A O : Type 0} (after : After A) (leaves : Option O) (new other : Activation A O)
    → AnswersAfter after leaves Turn new → AnswersAfter after leaves Turn other → new ≡ other
same_activation (Another left args) leaves new other h k = h.1 ∙ sym k.1
same_activation Ended leaves new other h k = cc
same_activation TooDeep leaves new other h k = cc

module _ {A O : Type 0} (m : Moves A O) (out : ℕ → Option O) (next : ℕ → Option A) where
  -- What is answered to a turn is answered to another that gave the same.
  moved : (now : Activation A O) (x y : Evaluated A O) (asked : DriverRequest O) (new : Activation A O)
      → x.out ≡ y.out → x.next ≡ y.next → Answers m now x.out x.next asked new → Answers m now y.out y.next asked new
  moved now x y asked new outs nexts h = rw (← outs, ← nexts) h

  -- A driver that stands so takes one list of turns from a number on, and has one answer to the last.
  drives_one :
      (number : ℕ) (now : Activation A O) (turns others : List (Evaluated A O)) (asked other : DriverRequest O)
      → GaveByNumber out next number turns → GaveByNumber out next number others → Drives m now turns asked → Drives m now others other
      → (turns ≡ others) × (asked ≡ other)
  drives_one number now [] others asked other g j h k = absurd h
  drives_one number now (t ∷ []) [] asked other g j h k = absurd k
  drives_one number now (t ∷ (t' ∷ ts)) [] asked other g j h k = absurd k
  drives_one number now (t ∷ []) (u ∷ []) asked other g j h k =
      let outs = g.0 ∙ sym j.0 in
      let nexts = g.1 ∙ sym j.1 in
      let same = same_turn t u (h.0 ∙ sym k.0) outs nexts in
      (ap (λ x. x ∷ []) same, same_answer _ _ asked other h.2.0 k.2.0 (moved now t u asked h.2.0 outs nexts h.2.1) k.2.1)
  drives_one number now (t ∷ []) (u ∷ (u' ∷ us)) asked other g j h k =
      let answers = moved now t u asked h.2.0 (g.0 ∙ sym j.0) (g.1 ∙ sym j.1) h.2.1 in
      absurd (h.1 (same_answer _ _ asked Turn h.2.0 k.1.0 answers k.1.1))
  drives_one number now (t ∷ (t' ∷ ts)) (u ∷ []) asked other g j h k =
      let answers = moved now t u Turn h.1.0 (g.0 ∙ sym j.0) (g.1 ∙ sym j.1) h.1.1 in
      absurd (k.1 (same_answer _ _ other Turn k.2.0 h.1.0 k.2.1 answers))
  drives_one number now (t ∷ (t' ∷ ts)) (u ∷ (u' ∷ us)) asked other g j h k =
      let outs = g.0 ∙ sym j.0 in
      let nexts = g.1 ∙ sym j.1 in
      let same = same_turn t u (h.0 ∙ sym k.0) outs nexts in
      let new = same_activation _ _ h.1.0 k.1.0 (moved now t u Turn h.1.0 outs nexts h.1.1) k.1.1 in
      let drives : Activation A O → Type 0 = λ now. Drives m now (t' ∷ ts) asked in
      let more = drives_one (number + 1) k.1.0 (t' ∷ ts) (u' ∷ us) asked other g.2 j.2 (subst drives new h.1.2) k.1.2 in
      (cc (same, more.0), more.1)

pub activations_are_settled : {A O : Type 0} → ActivationsAreSettled A O
activations_are_settled m policy args out next turns others asked other has g j h k =
    drives_one m out next 1 (start args policy) turns others asked other g j
    ((drivers_follow_the_rule m policy args turns asked has).1 h)
    ((drivers_follow_the_rule m policy args others other has).1 k)

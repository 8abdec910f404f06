-- How an activation stands between two turns.
use Rattle.std.specs.Prelude.{◌≡◌, ℕ, List, [], Option, option_map, IsTrue}
use Rattle.base_trait.specs.Algebra.{Algebra}
use Rattle.base_trait.specs.Uses.{Seen}
use Rattle.support_tail_fixpoint.specs.Activation.{Activation, Fits}
use Rattle.support_tail_fixpoint.specs.Answer.{Yield, fails, gives}
use Rattle.support_tail_fixpoint.specs.Driving.{Remaining}
use Rattle.support_tail_fixpoint.specs.Meaning.{Meaning}
use Rattle.support_tail_fixpoint.specs.Measure as numbers
use Rattle.support_tail_fixpoint.specs.Measure.{CanEnd}
use Rattle.support_tail_fixpoint.specs.Views.{activation}
use Rattle.spec_ir.specs.Specification.{Spec}
use Rattle.abstract_value_laws.specs.Abs.{Abs}
use Rattle.abstract_value.specs.View.{abs}
use Rattle.eval_group_turns.specs.Turning.{stamps_from, turning}
use Rattle.eval_group_turns.specs.Views.{all_abs, group_args}
use Rattle.abstract_semantics.specs.Answers.{Answer}
use Rattle.abstract_semantics.specs.Calls.{moves}
use Rattle.abstract_semantics.specs.Terms.{GroupArgs}
use Rattle.eval_activation.specs.declared.activity.Activity.{Activity}
use Rattle.eval_activation.specs.declared.activity.ActivationStep.{ActivationStep}
use Rattle.eval_activation.specs.declared.activity.ActivationStep.TheVariants.{Again, Done, OutOfFuel}
use Rattle.eval_memo.specs.declared.setting.Setting.{Setting}
use Rattle.eval_memo.specs.Settings.{group_of, group_turn, spec_of}

-- what the turns mean of an activation of function f that began with these arguments
abbrev pub turns_from : {X W N C : Type 0} → Algebra W N C → ℕ → Setting X W N C → ℕ → List (Abs W N) → Meaning (GroupArgs W N) (Abs W N)
turns_from B cap s f args = turning B s.ctx.now cap (spec_of s) (stamps_from B s.at args) (group_of s f)

module _ {X Y W N C : Type 0} where
  -- the activation as plain data
  abbrev pub standing : Activity X Y W N C → Activation (GroupArgs W N) (Abs W N)
  standing a = activation group_args abs a.driver

  -- the group arguments of the turn that is due
  abbrev pub due : Activity X Y W N C → GroupArgs W N
  due a = group_args a.driver.args

  module _ (B : Algebra W N C) (cap : ℕ) where
    -- what the turns of the activation mean, of functions of this specification
    abbrev pub meaning : Spec → Activity X Y W N C → Meaning (GroupArgs W N) (Abs W N)
    meaning spec a = turning B a.turns.ctx cap spec (stamps_from B a.turns.at (all_abs a.turns.origin)) a.turns.group

    -- what each further turn lowers
    abbrev pub measure : Spec → Activity X Y W N C → ℕ
    measure spec a = numbers.measure (meaning spec a).rank ((meaning spec a).rank []) (standing a)

    module _ (s : Setting X W N C) (calls : ℕ → List (Abs W N) → Answer (Abs W N)) (f : ℕ) where
      -- This activation is one of function f on these arguments, and the turns that are left to it come to what the call gives, from a log on.
      pub record Goes (args : List (Abs W N)) (a : Activity X Y W N C) (l : List Seen) : Type 0 where
        pub running : IsTrue a.driver.running
        pub same : meaning (spec_of s) a ≡ turns_from B cap s f args
        pub fits : Fits (turns_from B cap s f args) (standing a)
        pub can_end : CanEnd (turns_from B cap s f args) a.driver.left
        pub remaining : Remaining (moves B s.ctx.now cap) f (group_turn B cap calls s (group_of s f)) (standing a) l (calls f args)

      -- The turn that was due gave this.
      pub record Taken (a : Activity X Y W N C) (y : Option (Yield (GroupArgs W N) (Abs W N))) : Type 0 where
        pub args : List (Abs W N)
        pub before : List Seen
        pub after : List Seen
        pub goes : Goes args a before
        pub gave : group_turn B cap calls s (group_of s f) (due a) before ≡ gives y after

      -- what is known after a step
      abbrev pub IsAfter : List (Abs W N) → ActivationStep X W N C → Activity X Y W N C → List Seen → Type 0
      IsAfter args Again new l = Goes args new l
      IsAfter args (Done v) new l = calls f args ≡ gives (option_map abs v) l
      IsAfter args OutOfFuel new l = calls f args ≡ fails f

      abbrev pub After : Activity X Y W N C → Option (Yield (GroupArgs W N) (Abs W N)) → ActivationStep X W N C → Activity X Y W N C → Type 0
      After old y step new = (args : List (Abs W N)) (before after : List Seen) → Goes args old before → group_turn B cap calls s (group_of s f) (due old) before ≡ gives y after → IsAfter args step new after

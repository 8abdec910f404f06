-- What the evaluator is asked for, and when it may be.
use Rattle.std.specs.Prelude.{ℕ, List}
use Rattle.base_trait.specs.Algebra.{Algebra}
use Rattle.semantics_laws.specs.Accepted.{IsAccepted}
use Rattle.eval_code.specs.Lowered.{IsCodeOf}
use Rattle.eval_code.specs.Views.{code}
use Rattle.support_tail_fixpoint.specs.Activation.{HasTurn}
use Rattle.abstract_value_laws.specs.Abs.{Abs}
use Rattle.abstract_semantics.specs.Answers.{Answer}
use Rattle.abstract_semantics.specs.CallAnswers.{answers}
use Rattle.abstract_semantics.specs.CallLaws.{JoinsUnder}
use Rattle.eval_memo.specs.declared.setting.Setting.{Setting}
use Rattle.eval_memo.specs.Memos.{AreDistinct, AreTrue, Remembered}
use Rattle.eval_memo.specs.Settings.{spec_of}

module _ {X W N C : Type 0} (B : Algebra W N C) (cap : ℕ) (s : Setting X W N C) where
  -- what a call of a function gives, with its own reads
  abbrev pub calls_of : ℕ → List (Abs W N) → Answer (Abs W N)
  calls_of = answers B s.ctx.now cap (spec_of s) s.at s.policy

  -- The specification is accepted, the code is its own, activations have a turn, and where they are widened the base joins.
  pub record MayEvaluate : Type 0 where
    pub accepted : IsAccepted (spec_of s)
    pub code_is : IsCodeOf (code s.cir.now) (spec_of s)
    pub has_turn : HasTurn s.policy
    pub joins : JoinsUnder B s.policy

  -- Each entry of a memo says what its call gives, and no two are of one call.
  pub record IsRight (es : List (Remembered W N)) : Type 0 where
    pub true_of : AreTrue calls_of es
    pub distinct : AreDistinct es

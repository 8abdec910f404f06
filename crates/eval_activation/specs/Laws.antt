-- When an evaluation may take place.
use Rattle.std.specs.Prelude.{ℕ, List}
use Rattle.base_trait.specs.Algebra.{Algebra}
use Rattle.abstract_map_laws.specs.Laws.{HasRoom}
use Rattle.semantics_laws.specs.Accepted.{IsAccepted}
use Rattle.eval_code.specs.Lowered.{IsCodeOf}
use Rattle.eval_code.specs.Views.{code}
use Rattle.support_tail_fixpoint.specs.Activation.{HasTurn}
use Rattle.abstract_value_laws.specs.Abs.{Abs}
use Rattle.abstract_semantics.specs.Answers.{Answer}
use Rattle.abstract_semantics.specs.Calls.{AreRight}
use Rattle.eval_memo.specs.declared.setting.Setting.{Setting}
use Rattle.abstract_semantics.specs.CallLaws.{JoinsUnder}
use Rattle.eval_memo.specs.Ready.{IsReady}
use Rattle.eval_memo.specs.Settings.{spec_of}

-- A specification that is accepted, with its own code, is evaluated as any right reinterpretation says.
abbrev pub MayBeEvaluated : {X W N C : Type 0} → Algebra W N C → ℕ → Setting X W N C → Type 0
MayBeEvaluated {X} {W} {N} B cap s = (calls : ℕ → List (Abs W N) → Answer (Abs W N)) → IsAccepted (spec_of s) → IsCodeOf (code s.cir.now) (spec_of s) → HasRoom B cap → HasTurn s.policy → JoinsUnder B s.policy
    → AreRight B s.ctx.now cap (spec_of s) s.at s.policy calls → IsReady B cap s (spec_of s) calls

-- The calls of code: what functions give whose activations go by the rule of turns, each turn by the code of the functions of a group.
use Rattle.std.specs.Prelude.{◌≡◌, ℕ, ◌<◌, ◌≤◌, false, List, [], None, length}
use Rattle.support_tail_fixpoint.specs.declared.policy.Policy.{Policy}
use Rattle.support_tail_fixpoint.specs.Answer.{gives}
use Rattle.support_tail_fixpoint.specs.Evaluation.{IsAnswer}
use Rattle.base_trait.specs.Algebra.{Algebra}
use Rattle.spec_ir.specs.Specification.{Spec}
use Rattle.semantics_values.specs.Types.{environment_of}
use Rattle.abstract_value_laws.specs.Abs.{Abs, parts}
use Rattle.abstract_value_laws.specs.Types.{have_types}
use Rattle.support_tail_fixpoint.specs.Groups.{only}
use Rattle.abstract_semantics.specs.Answers.{Answer}
use Rattle.abstract_semantics.specs.Calls.{AreArguments, moves}
use Rattle.abstract_semantics.specs.Terms.{params_of}
use Rattle.eval_code.specs.Code.{FunCode}
use Rattle.eval_code_meaning.specs.Meaning.{group_turn}

module _ {W N C : Type 0} (B : Algebra W N C) (c : C) (cap : ℕ) (spec : Spec) (code : List FunCode) (a : ℕ) (policy : Policy) where
  -- The answer is that of an activation that begins with function f, where calls outside of turns give what `calls` says.
  abbrev pub IsCodeAnswer : (calls : ℕ → List (Abs W N) → Answer (Abs W N)) → ℕ → List (Abs W N) → Answer (Abs W N) → Type 0
  IsCodeAnswer calls f args answer = IsAnswer f (group_turn B c cap spec a calls code) (moves B c cap) policy (only f args) [] answer

  -- `calls` is what the code means: as `AreRight` of the reinterpretation says it of core terms.
  pub record AreOfCode (calls : ℕ → List (Abs W N) → Answer (Abs W N)) : Type 0 where
    pub missing : (f : ℕ) (args : List (Abs W N)) → length spec.funs ≤ f → calls f args ≡ gives None []
    pub untyped : (f : ℕ) (args : List (Abs W N)) → have_types (environment_of spec) (parts args) (params_of spec f) ≡ false → calls f args ≡ gives None []
    pub answered : (f : ℕ) (args : List (Abs W N)) → f < length spec.funs → AreArguments B c cap spec f args → IsCodeAnswer calls f args (calls f args)

-- Laws of plans.
use Rattle.std.specs.Prelude.{◌≡◌, ℕ, List, [], Some}
use Rattle.base_trait.specs.Algebra.{Algebra}
use Rattle.base_trait.specs.Uses.{Seen}
use Rattle.base_trait.specs.declared.tri.Tri.{Tri}
use Rattle.spec_match_compiler.specs.Decisions.{Decision}
use Rattle.abstract_value_laws.specs.Abs.{Abs}
use Rattle.abstract_value_laws.specs.Fits.{Fits}
use Rattle.support_tail_fixpoint.specs.Answer.{Yield}
use Rattle.abstract_semantics.specs.Answers.{Evaluation, branch}
use Rattle.abstract_semantics.specs.Choices.{decided}
use Rattle.abstract_semantics.specs.Terms.{GroupArgs}
use Rattle.eval_plans.specs.Plans.{PlanFits, arm, either, given_plan, planned}

module _ {W N C : Type 0} (B : Algebra W N C) where
  -- The arms of the plan of a decision give to a turn what the decision gives, whatever arms give and however it is joined.
  abbrev pub PlansDecide : Type 0
  PlansDecide =
      (c : C) (j : Yield (GroupArgs W N) (Abs W N) → Yield (GroupArgs W N) (Abs W N) → Yield (GroupArgs W N) (Abs W N)) (on : ℕ → List (Abs W N) → Evaluation (Yield (GroupArgs W N) (Abs W N)))
      (x : Abs W N) (by : Decision) (l : List Seen) → given_plan j on (planned B c x by) l ≡ decided B c j on x by l

  -- And so do the two arms of a condition.
  abbrev pub PlansBranch : Type 0
  PlansBranch =
      (j : Yield (GroupArgs W N) (Abs W N) → Yield (GroupArgs W N) (Abs W N) → Yield (GroupArgs W N) (Abs W N)) (on : ℕ → List (Abs W N) → Evaluation (Yield (GroupArgs W N) (Abs W N)))
      (o : Tri) (l : List Seen) → given_plan j on (either o (arm 0 []) (arm 1 [])) l ≡ branch j o (on 0 []) (on 1 []) l

  -- What a plan of a value that fits names fits.
  abbrev pub PlansFit : Type 0
  PlansFit = (c : C) (cap : ℕ) (x : Abs W N) (by : Decision) → Fits B c cap x → PlanFits B c cap (planned B c x by)

-- Laws of the answers of calls, over any base.
use Rattle.std.specs.Prelude.{◌≡◌, ⊤, ℕ, List, IsTrue}
use Rattle.support_tail_fixpoint.specs.declared.policy.Policy.{Policy}
use Rattle.support_tail_fixpoint.specs.declared.policy.Policy.TheVariants.{Stop, Widen}
use Rattle.support_tail_fixpoint.specs.Activation.{HasTurn}
use Rattle.base_trait.specs.Algebra.{Algebra}
use Rattle.abstract_map_laws.specs.Laws.{HasRoom}
use Rattle.spec_ir.specs.Specification.{Spec}
use Rattle.semantics_laws.specs.Accepted.{IsAccepted}
use Rattle.abstract_value_laws.specs.Abs.{Abs}
use Rattle.abstract_semantics.specs.Answers.{Answer}
use Rattle.abstract_semantics.specs.Calls.{AreArguments, AreRight}
use Rattle.abstract_semantics.specs.CallAnswers.{answers}

module _ {W N C : Type 0} (B : Algebra W N C) where
  -- Under `Widen` the base joins.
  abbrev pub JoinsUnder : Policy → Type 0
  JoinsUnder (Stop turns) = ⊤
  JoinsUnder (Widen unroll delay) = IsTrue B.joins

  -- Of an accepted specification, the answers of calls are its reinterpretation.
  abbrev pub AnswersAreRight : Type 0
  AnswersAreRight =
      (spec : Spec) (c : C) (cap a : ℕ) (policy : Policy) → IsAccepted spec → HasRoom B cap → HasTurn policy → JoinsUnder policy
      → AreRight B c cap spec a policy (answers B c cap spec a policy)

  -- And any reinterpretation gives these, on arguments of the parameters' types that fit.
  abbrev pub AnswersAreTheOne : Type 0
  AnswersAreTheOne =
      (spec : Spec) (c : C) (cap a : ℕ) (policy : Policy) (calls : ℕ → List (Abs W N) → Answer (Abs W N)) (f : ℕ) (xs : List (Abs W N))
      → IsAccepted spec → HasRoom B cap → HasTurn policy → JoinsUnder policy → AreRight B c cap spec a policy calls
      → AreArguments B c cap spec f xs → calls f xs ≡ answers B c cap spec a policy f xs

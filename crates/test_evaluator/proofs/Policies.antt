-- A base that joins has both policies.
use Rattle.std.proofs.Common.{IsTrue}
use Rattle.base_trait.specs.Algebra.{Algebra}
use Rattle.support_tail_fixpoint.specs.declared.policy.Policy.{Policy}
use Rattle.support_tail_fixpoint.specs.declared.policy.Policy.TheVariants.{Stop, Widen}
use Rattle.abstract_semantics.specs.CallLaws.{JoinsUnder}

pub joins_under : {W N C : Type 0} (B : Algebra W N C) (policy : Policy) → IsTrue B.joins → JoinsUnder B policy
joins_under B (Stop turns) h = tt
joins_under B (Widen unroll delay) h = h

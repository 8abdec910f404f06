-- There is a reinterpretation: under `Stop`, and over a base that joins under `Widen`.
use Rattle.std.proofs.Common.{ℕ, ◌≤◌, [], ◌∷◌, IsTrue, inl}
use Rattle.base_trait.specs.Algebra.{Algebra}
use Rattle.base_trait.specs.Laws.{Laws}
use Rattle.base_trait.specs.declared.uses.Stamp.TheVariants.{At}
use Rattle.spec_ir.specs.Specification.{Spec}
use Rattle.semantics_values.specs.Types.{environment_of}
use Rattle.semantics.specs.Direct.{group_of}
use Rattle.semantics_laws.specs.Accepted.{IsAccepted}
use Rattle.abstract_value_laws.specs.Abs.{parts}
use Rattle.abstract_value_laws.specs.Shapes.{ListsStamps}
use Rattle.abstract_value_laws.proofs.Widening.{widen_lists}
use Rattle.support_tail_fixpoint.specs.Groups.{EachIs, only as only_of}
use Rattle.support_tail_fixpoint.specs.declared.policy.Policy.TheVariants.{Stop, Widen}
use Rattle.support_tail_fixpoint.proofs.Ending.{stopped_answers_exist, widened_answers_exist}
use Rattle.abstract_semantics.specs.Calls.{moves}
use Rattle.abstract_semantics.specs.Laws.{StoppedCallsExist, WidenedCallsExist}
use Rattle.abstract_semantics.specs.Terms.{group_turn}
use Rattle.abstract_semantics.proofs.Called.{keeps_args}
use Rattle.abstract_semantics.proofs.Carried.{asks_fit}
use Rattle.abstract_semantics.proofs.Levels.{Answered, calls_exist, own_args}
use Rattle.abstract_semantics.proofs.Listed.{keeps_stamps}
use Rattle.abstract_semantics.specs.OwnStamps.{part_stamps}
use Rattle.abstract_semantics.specs.Ranks.{group_rank}
use Rattle.abstract_semantics.proofs.Lowered.{groups_lower}
use Rattle.abstract_semantics.proofs.Termed.{ArgsOf}

module _ {W N C : Type 0} (B : Algebra W N C) (laws : Laws W N C B) where
  stopped : (spec : Spec) (c : C) (cap a turns : ℕ) → 1 ≤ turns → Answered B c cap spec a (Stop turns)
  stopped spec c cap a turns le calls f fun xs kept e args = stopped_answers_exist (moves B c cap) turns f (group_turn B c cap spec a calls (group_of spec f)) (only_of f xs) [] le

  widened : (spec : Spec) (c : C) (cap a unroll delay : ℕ) → IsAccepted spec → IsTrue B.joins → Answered B c cap spec a (Widen unroll delay)
  widened spec c cap a unroll delay ok joins calls f fun xs kept e args =
      widened_answers_exist (EachIs (ArgsOf B laws c cap spec a (ListsStamps B (At a ∷ part_stamps B (parts xs))) (group_of spec f))) (moves B c cap) unroll delay f (group_turn B c cap spec a calls (group_of spec f))
      (group_rank B c cap spec (At a ∷ part_stamps B (parts xs))) (only_of f xs) []
      (keeps_args B laws c cap spec a (ListsStamps B (At a ∷ part_stamps B (parts xs))) (keeps_stamps B laws c cap (environment_of spec) a (part_stamps B (parts xs)))
      (λ x y p q. widen_lists B laws c (At a ∷ part_stamps B (parts xs)) x y p q) (inl joins) ok (group_of spec f))
      (groups_lower B laws c cap spec a (At a ∷ part_stamps B (parts xs)) ok.types joins (group_of spec f))
      (asks_fit B laws c cap spec a (ListsStamps B (At a ∷ part_stamps B (parts xs))) (keeps_stamps B laws c cap (environment_of spec) a (part_stamps B (parts xs)))
      (λ x y p q. widen_lists B laws c (At a ∷ part_stamps B (parts xs)) x y p q) (inl joins) ok (Widen unroll delay) calls f fun e (λ g r ys small d k. kept (part_stamps B (parts xs)) g r ys d k))
      (own_args B laws c cap spec a f fun xs e args)

  pub stopped_calls_exist : StoppedCallsExist B
  stopped_calls_exist spec c cap a turns ok room le = calls_exist B laws c cap spec a room ok (Stop turns) (stopped spec c cap a turns le)

  pub widened_calls_exist : WidenedCallsExist B
  widened_calls_exist spec c cap a unroll delay ok joins = calls_exist B laws c cap spec a (inl joins) ok (Widen unroll delay) (widened spec c cap a unroll delay ok joins)

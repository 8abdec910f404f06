-- One call: the answer of its activation.
use Rattle.std.proofs.Common.{◌≡◌, ℕ, ◌≤◌, List, [], ◌∷◌, Option, None, Some, slice_get, length, inl, arith, IsTrue}
use Rattle.std.specs.Prelude.{IfSome, ⊤}
use Rattle.base_trait.specs.Algebra.{Algebra}
use Rattle.base_trait.specs.Laws.{Laws}
use Rattle.base_trait.specs.declared.uses.Stamp.TheVariants.{At}
use Rattle.spec_ir.specs.Specification.{Spec, Fun}
use Rattle.semantics_values.specs.Types.{environment_of}
use Rattle.semantics.specs.Direct.{group_of}
use Rattle.semantics_laws.specs.Accepted.{IsAccepted}
use Rattle.abstract_value_laws.specs.Abs.{Abs, parts}
use Rattle.abstract_value_laws.specs.Shapes.{ListsStamps}
use Rattle.abstract_value_laws.proofs.Widening.{widen_lists}
use Rattle.support_tail_fixpoint.specs.Groups.{EachIs, only as only_of}
use Rattle.support_tail_fixpoint.proofs.Ranks.{each_high}
use Rattle.support_tail_fixpoint.specs.declared.policy.Policy.{Policy}
use Rattle.support_tail_fixpoint.specs.declared.policy.Policy.TheVariants.{Stop, Widen}
use Rattle.support_tail_fixpoint.specs.Activation.{HasTurn}
use Rattle.support_tail_fixpoint.specs.Answer.{Answer as Comes, IfGives, Yield, fails, gives}
use Rattle.abstract_semantics.specs.Answers.{Answer}
use Rattle.abstract_semantics.specs.Calls.{AreArguments, IsCallAnswer, moves}
use Rattle.abstract_semantics.specs.Terms.{GroupArgs, group_turn, params_of}
use Rattle.abstract_semantics.proofs.Called.{keeps_args}
use Rattle.abstract_semantics.proofs.Carried.{asks_fit}
use Rattle.abstract_semantics.proofs.Levels.{AreKept, own_args}
use Rattle.abstract_semantics.proofs.Listed.{keeps_stamps}
use Rattle.abstract_semantics.specs.Ranks.{args_height, args_rank, group_rank}
use Rattle.abstract_semantics.proofs.Lowered.{args_high, groups_lower}
use Rattle.abstract_semantics.specs.OwnStamps.{part_stamps}
use Rattle.abstract_semantics.proofs.Termed.{ArgsOf}
use Rattle.abstract_semantics.specs.CallAnswers.{activated, greatest_rank}
use Rattle.abstract_semantics.specs.CallLaws.{JoinsUnder}
use Rattle.abstract_semantics.proofs.Driving.{driven_answers}

all_give : {F S A O : Type 0} (given : Comes F S (Yield A O)) → IfGives given (λ y. IfSome y.next (λ x. ⊤))
all_give (fails f) = tt
all_give (gives None state) = tt
all_give (gives (Some y) state) = all_some y.next
  where
    all_some : {X : Type 0} (next : Option X) → IfSome next (λ x. ⊤)
    all_some None = tt
    all_some (Some x) = tt

module _ {W N C : Type 0} (B : Algebra W N C) (laws : Laws W N C B) (c : C) (cap : ℕ) (spec : Spec) (a : ℕ) (calls : ℕ → List (Abs W N) → Answer (Abs W N)) (f : ℕ) (xs : List (Abs W N)) where
  stopped : (turns : ℕ) → 1 ≤ turns → IsCallAnswer B c cap spec a (Stop turns) calls f xs (activated B c cap spec a (Stop turns) calls f xs)
  stopped turns has =
      driven_answers (moves B c cap) f (group_turn B c cap spec a calls (group_of spec f)) (λ x. ⊤) (λ x. 0) (greatest_rank B c cap spec a xs) (record { join_args = λ x y p q. tt; widen_args = λ x y p q. tt })
      (λ args state fits. all_give (group_turn B c cap spec a calls (group_of spec f) args state)) (λ args fits. omega arith) (Stop turns) (only_of f xs) [] has tt tt

  module _ (ok : IsAccepted spec) (joins : IsTrue B.joins) (kept : AreKept B c cap spec a calls) (fun : Fun) (e : slice_get spec.funs f ≡ Some fun) (args : AreArguments B c cap spec f xs) where
    -- arguments of the group whose stamps are those of the first ones and of the instruction
    abbrev Fits : GroupArgs W N → Type 0
    Fits = EachIs (ArgsOf B laws c cap spec a (ListsStamps B (At a ∷ part_stamps B (parts xs))) (group_of spec f))

    low : (ys : GroupArgs W N) → Fits ys → group_rank B c cap spec (At a ∷ part_stamps B (parts xs)) ys ≤ greatest_rank B c cap spec a xs
    low ys fits =
        each_high (length spec.funs) (ArgsOf B laws c cap spec a (ListsStamps B (At a ∷ part_stamps B (parts xs))) (group_of spec f)) (λ g zs. args_rank B c cap spec (At a ∷ part_stamps B (parts xs)) (params_of spec g) zs)
        (λ g. args_height B c cap spec (At a ∷ part_stamps B (parts xs)) (params_of spec g)) ys
        (λ g zs h. args_high B laws c cap spec a (At a ∷ part_stamps B (parts xs)) ok.types (params_of spec g) zs h.are) fits

    widened : (unroll delay : ℕ) → IsCallAnswer B c cap spec a (Widen unroll delay) calls f xs (activated B c cap spec a (Widen unroll delay) calls f xs)
    widened unroll delay =
        driven_answers (moves B c cap) f (group_turn B c cap spec a calls (group_of spec f)) Fits (group_rank B c cap spec (At a ∷ part_stamps B (parts xs))) (greatest_rank B c cap spec a xs)
        (keeps_args B laws c cap spec a (ListsStamps B (At a ∷ part_stamps B (parts xs))) (keeps_stamps B laws c cap (environment_of spec) a (part_stamps B (parts xs)))
        (λ x y p q. widen_lists B laws c (At a ∷ part_stamps B (parts xs)) x y p q) (inl joins) ok (group_of spec f))
        (asks_fit B laws c cap spec a (ListsStamps B (At a ∷ part_stamps B (parts xs))) (keeps_stamps B laws c cap (environment_of spec) a (part_stamps B (parts xs)))
        (λ x y p q. widen_lists B laws c (At a ∷ part_stamps B (parts xs)) x y p q) (inl joins) ok (Widen unroll delay) calls f fun e (λ g r ys small d k. kept (part_stamps B (parts xs)) g r ys d k))
        low (Widen unroll delay) (only_of f xs) [] tt (groups_lower B laws c cap spec a (At a ∷ part_stamps B (parts xs)) ok.types joins (group_of spec f))
        (own_args B laws c cap spec a f fun xs e args)

-- where calls keep types, a call of a function on its arguments has the answer of an activation
pub activated_answers : {W N C : Type 0} (B : Algebra W N C) (laws : Laws W N C B) (c : C) (cap : ℕ) (spec : Spec) (a : ℕ) (policy : Policy) → IsAccepted spec → HasTurn policy → JoinsUnder B policy
    → (calls : ℕ → List (Abs W N) → Answer (Abs W N)) (f : ℕ) (fun : Fun) (xs : List (Abs W N)) → AreKept B c cap spec a calls → slice_get spec.funs f ≡ Some fun → AreArguments B c cap spec f xs
    → IsCallAnswer B c cap spec a policy calls f xs (activated B c cap spec a policy calls f xs)
activated_answers B laws c cap spec a (Stop turns) ok has joins calls f fun xs kept e args = stopped B laws c cap spec a calls f xs turns has
activated_answers B laws c cap spec a (Widen unroll delay) ok has joins calls f fun xs kept e args = widened B laws c cap spec a calls f xs ok joins kept fun e args unroll delay

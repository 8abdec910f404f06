-- What drivers of these turns need: group arguments fit, widening lowers their rank, and no rank is above a height.
use Rattle.std.proofs.Common.{ℕ, ◌≤◌, List, [], ◌∷◌, length, IsTrue}
use Rattle.base_trait.specs.Algebra.{Algebra}
use Rattle.base_trait.specs.Laws.{Laws}
use Rattle.base_trait.specs.declared.uses.Stamp.{Stamp}
use Rattle.spec_ir.specs.declared.ty.Ty.{Ty}
use Rattle.spec_ir.specs.Specification.{Spec}
use Rattle.spec_ir.specs.WellFormed.{IsWellFormed}
use Rattle.semantics_values.specs.Types.{environment_of}
use Rattle.abstract_value_laws.specs.Abs.{Abs, parts}
use Rattle.abstract_value_laws.specs.Shapes.{ListsStamps, PartsList}
use Rattle.support_tail_fixpoint.proofs.Groups.{each_weaker}
use Rattle.support_tail_fixpoint.proofs.Ranks.{each_high}
use Rattle.support_tail_fixpoint.specs.Fitting.{WideningLowersRank}
use Rattle.support_tail_fixpoint.specs.Meaning.{ArgsFit}
use Rattle.abstract_semantics.specs.Calls.{moves}
use Rattle.abstract_semantics.specs.Terms.{GroupArgs, params_of}
use Rattle.abstract_semantics.specs.Ranks.{args_height, args_rank, group_rank}
use Rattle.abstract_semantics.proofs.Lowered.{args_high, groups_lower}
use Rattle.abstract_semantics.proofs.Listed.{each_lists}
use Rattle.abstract_semantics.proofs.Plain.{are_given}
use Rattle.abstract_semantics.proofs.Termed.{ArgsOf}
use Rattle.abstract_semantics.proofs.Typed.{AreOf, are_fit, are_typed}
use Rattle.eval_group_turns.specs.Fitting.{EachFits, ListFits}
use Rattle.eval_group_turns.specs.Kept.{args_are, args_fit}
use Rattle.eval_group_turns.specs.Laws.{ArgumentsAreTold, IsListOf, RanksAreBounded, WideningLowers}
use Rattle.eval_group_turns.specs.Turning.{turning}

module _ {W N C : Type 0} (B : Algebra W N C) (laws : Laws W N C B) (c : C) (cap : ℕ) (spec : Spec) (a : ℕ) (stamps : List Stamp) (g : ℕ) where
  pub each_fits : (args : GroupArgs W N) → ArgsFit (turning B c cap spec stamps g) args → EachFits B c cap args
  each_fits args h =
      each_weaker (ArgsOf B laws c cap spec a (ListsStamps B stamps) g) (λ f xs. ListFits B c cap xs) args
      (λ f xs k. are_fit B c cap (environment_of spec) (ListsStamps B stamps) (params_of spec f) xs k.are) (args_are B laws c cap spec a stamps g args h)

  module _ (formed : IsWellFormed (environment_of spec)) where
    -- under `Widen`, over a base that joins, an activation ends
    pub can_end : IsTrue B.joins → WideningLowersRank (moves B c cap) (ArgsFit (turning B c cap spec stamps g)) (group_rank B c cap spec stamps)
    can_end joins = record {
      lowers = λ old new ho hn e. (groups_lower B laws c cap spec a stamps formed joins g).lowers old new (args_are B laws c cap spec a stamps g old ho) (args_are B laws c cap spec a stamps g new hn) e;
    }

    -- the rank of no arguments at all is the greatest
    pub rank_high : (args : GroupArgs W N) → ArgsFit (turning B c cap spec stamps g) args → group_rank B c cap spec stamps args ≤ group_rank B c cap spec stamps []
    rank_high args h =
        each_high (length spec.funs) (ArgsOf B laws c cap spec a (ListsStamps B stamps) g) (λ f xs. args_rank B c cap spec stamps (params_of spec f) xs) (λ f. args_height B c cap spec stamps (params_of spec f)) args
        (λ f xs k. args_high B laws c cap spec a stamps formed (params_of spec f) xs k.are) (args_are B laws c cap spec a stamps g args h)

module _ {W N C : Type 0} (B : Algebra W N C) (laws : Laws W N C B) where
  -- ---- as the laws say it
  all_list : (c : C) (cap : ℕ) (spec : Spec) (stamps : List Stamp) (ts : List Ty) (xs : List (Abs W N)) → AreOf B c cap (environment_of spec) (ListsStamps B stamps) ts xs → PartsList B stamps (parts xs)
  all_list c cap spec stamps [] [] h = tt
  all_list c cap spec stamps [] (x ∷ xs) h = absurd h
  all_list c cap spec stamps (t ∷ ts) [] h = absurd h
  all_list c cap spec stamps (t ∷ ts) (x ∷ xs) h = (h.0.also, all_list c cap spec stamps ts xs h.1)

  list_of : (c : C) (cap : ℕ) (spec : Spec) (stamps : List Stamp) (g f : ℕ) (xs : List (Abs W N)) → ArgsOf B laws c cap spec 0 (ListsStamps B stamps) g f xs → IsListOf B c cap spec stamps g f xs
  list_of c cap spec stamps g f xs h = record {
    there = h.there;
    of_group = h.of_group;
    are = record { typed = are_typed B c cap (environment_of spec) (ListsStamps B stamps) (params_of spec f) xs h.are; fit = are_fit B c cap (environment_of spec) (ListsStamps B stamps) (params_of spec f) xs h.are };
    lists = all_list c cap spec stamps (params_of spec f) xs h.are;
  }

  args_of : (c : C) (cap : ℕ) (spec : Spec) (stamps : List Stamp) (g f : ℕ) (xs : List (Abs W N)) → IsListOf B c cap spec stamps g f xs → ArgsOf B laws c cap spec 0 (ListsStamps B stamps) g f xs
  args_of c cap spec stamps g f xs h = record {
    there = h.there;
    of_group = h.of_group;
    are = are_given B c cap (ListsStamps B stamps) (environment_of spec) (params_of spec f) xs h.are.typed h.are.fit (each_lists B stamps xs h.lists);
  }

  pub arguments_are_told : ArgumentsAreTold B
  arguments_are_told c cap spec stamps g args = (
    λ h. each_weaker (ArgsOf B laws c cap spec 0 (ListsStamps B stamps) g) (IsListOf B c cap spec stamps g) args (λ f xs k. list_of c cap spec stamps g f xs k) (args_are B laws c cap spec 0 stamps g args h),
    λ h. args_fit B laws c cap spec 0 stamps g args (each_weaker (IsListOf B c cap spec stamps g) (ArgsOf B laws c cap spec 0 (ListsStamps B stamps) g) args (λ f xs k. args_of c cap spec stamps g f xs k) h),
  )

  pub widening_lowers : WideningLowers B
  widening_lowers c cap spec stamps g formed joins = can_end B laws c cap spec 0 stamps g formed joins

  pub ranks_are_bounded : RanksAreBounded B
  ranks_are_bounded c cap spec stamps g args formed h = rank_high B laws c cap spec 0 stamps g formed args h

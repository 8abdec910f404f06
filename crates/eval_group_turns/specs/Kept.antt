-- Joins and widenings keep what fits.
use Rattle.std.proofs.Common.{ℕ, List, [], ◌∷◌, refl}
use Rattle.base_trait.specs.Algebra.{Algebra}
use Rattle.base_trait.specs.Laws.{Laws}
use Rattle.base_trait.specs.declared.uses.Stamp.{Stamp}
use Rattle.abstract_map_laws.specs.Calls.{join_of as join_map, widen_of as widen_map}
use Rattle.abstract_map_laws.specs.Laws.{HasRoom}
use Rattle.spec_ir.specs.declared.ty.Ty.{Ty}
use Rattle.spec_ir.specs.Specification.{Spec}
use Rattle.semantics_values.specs.Types.{environment_of}
use Rattle.abstract_value_laws.specs.Abs.{Abs}
use Rattle.abstract_value_laws.specs.Calls.{join_of, widen_of}
use Rattle.abstract_value_laws.specs.Shapes.{ListsStamps}
use Rattle.abstract_value_laws.proofs.Joining.{join_fits, join_lists}
use Rattle.abstract_value_laws.proofs.Widening.{widen_fits, widen_lists}
use Rattle.support_tail_fixpoint.specs.Groups.{EachIs, merge_each}
use Rattle.support_tail_fixpoint.proofs.Groups.{each_tells, each_told, merge_each_kept}
use Rattle.support_tail_fixpoint.specs.Meaning.{ArgsFit, KeepsFit}
use Rattle.abstract_semantics.specs.Terms.{GroupArgs, merge_all, params_of}
use Rattle.abstract_semantics.proofs.Termed.{ArgsOf}
use Rattle.abstract_semantics.proofs.Tested.{fit_tells, fit_told}
use Rattle.abstract_semantics.proofs.Typed.{AreOf, IsOf}
use Rattle.eval_group_turns.specs.Told.{list_is, passes}
use Rattle.eval_group_turns.specs.Turning.{may_be_of, turning}
use Rattle.eval_group_turns.specs.Typed.{merged_type}

module _ {W N C : Type 0} (B : Algebra W N C) (laws : Laws W N C B) (c : C) (cap : ℕ) (spec : Spec) (a : ℕ) (stamps : List Stamp) (g : ℕ) where
  -- ---- group arguments that fit, as the reinterpretation has them
  pub args_are : (args : GroupArgs W N) → ArgsFit (turning B c cap spec stamps g) args → EachIs (ArgsOf B laws c cap spec a (ListsStamps B stamps) g) args
  args_are args h = each_told (may_be_of B c cap spec stamps g) (ArgsOf B laws c cap spec a (ListsStamps B stamps) g) args (λ f xs k. list_is B laws c cap spec a stamps g f xs k) h

  pub args_fit : (args : GroupArgs W N) → EachIs (ArgsOf B laws c cap spec a (ListsStamps B stamps) g) args → ArgsFit (turning B c cap spec stamps g) args
  args_fit args h = each_tells (may_be_of B c cap spec stamps g) (ArgsOf B laws c cap spec a (ListsStamps B stamps) g) args (λ f xs k. passes B laws c cap spec a stamps g f xs k) h

  module _ (room : HasRoom B cap) where
    value_joined : (ty : Ty) (x y : Abs W N) → IsOf B c cap (environment_of spec) (ListsStamps B stamps) ty x → IsOf B c cap (environment_of spec) (ListsStamps B stamps) ty y
        → IsOf B c cap (environment_of spec) (ListsStamps B stamps) ty (join_of B c cap x y)
    value_joined ty x y h k = record {
      has = merged_type (environment_of spec) (B.words.join c) (join_map B c cap) (λ x y. refl) ty x y h.has k.has;
      fits = join_fits B laws c cap x y room h.fits k.fits;
      also = join_lists B laws c cap stamps x y h.also k.also;
    }

    value_widened : (ty : Ty) (x y : Abs W N) → IsOf B c cap (environment_of spec) (ListsStamps B stamps) ty x → IsOf B c cap (environment_of spec) (ListsStamps B stamps) ty y
        → IsOf B c cap (environment_of spec) (ListsStamps B stamps) ty (widen_of B c x y)
    value_widened ty x y h k = record {
      has = merged_type (environment_of spec) (B.words.widen c) (widen_map B c) (λ x y. refl) ty x y h.has k.has;
      fits = widen_fits B laws c cap x y h.fits k.fits;
      also = widen_lists B laws c stamps x y h.also k.also;
    }

    module _ (f : Abs W N → Abs W N → Abs W N)
        (kept : (ty : Ty) (x y : Abs W N) → IsOf B c cap (environment_of spec) (ListsStamps B stamps) ty x → IsOf B c cap (environment_of spec) (ListsStamps B stamps) ty y → IsOf B c cap (environment_of spec) (ListsStamps B stamps) ty (f x y)) where
      all_kept : (ts : List Ty) (xs ys : List (Abs W N)) → AreOf B c cap (environment_of spec) (ListsStamps B stamps) ts xs → AreOf B c cap (environment_of spec) (ListsStamps B stamps) ts ys
          → AreOf B c cap (environment_of spec) (ListsStamps B stamps) ts (merge_all f xs ys)
      all_kept [] [] [] h k = tt
      all_kept [] [] (y ∷ ys) h k = absurd k
      all_kept [] (x ∷ xs) ys h k = absurd h
      all_kept (t ∷ ts) [] ys h k = absurd h
      all_kept (t ∷ ts) (x ∷ xs) [] h k = absurd k
      all_kept (t ∷ ts) (x ∷ xs) (y ∷ ys) h k = (kept t x y h.0 k.0, all_kept ts xs ys h.1 k.1)

      list_kept : (i : ℕ) (xs ys : List (Abs W N)) → ArgsOf B laws c cap spec a (ListsStamps B stamps) g i xs → ArgsOf B laws c cap spec a (ListsStamps B stamps) g i ys
          → ArgsOf B laws c cap spec a (ListsStamps B stamps) g i (merge_all f xs ys)
      list_kept i xs ys h k = record { there = h.there; of_group = h.of_group; are = all_kept (params_of spec i) xs ys h.are k.are }

      args_kept : (xs ys : GroupArgs W N) → ArgsFit (turning B c cap spec stamps g) xs → ArgsFit (turning B c cap spec stamps g) ys → ArgsFit (turning B c cap spec stamps g) (merge_each (merge_all f) xs ys)
      args_kept xs ys h k =
          args_fit (merge_each (merge_all f) xs ys) (merge_each_kept (ArgsOf B laws c cap spec a (ListsStamps B stamps) g) (merge_all f) xs ys list_kept (args_are xs h) (args_are ys k))

    pub keeps_fit : KeepsFit (turning B c cap spec stamps g)
    keeps_fit = record {
      args = record {
        join_args = λ x y hx hy. args_kept (join_of B c cap) value_joined x y hx hy;
        widen_args = λ old new ho hn. args_kept (widen_of B c) value_widened old new ho hn;
      };
      out = record { join_out = λ x y hx hy. fit_tells B laws c cap (join_of B c cap x y) (join_fits B laws c cap x y room (fit_told B laws c cap x hx) (fit_told B laws c cap y hy)) };
    }

-- Widening lowers the ranks of group arguments.
use Rattle.std.proofs.Common.{◌≡◌, ℕ, ◌+◌, ◌<◌, ◌≤◌, ◌&&◌, Bool, false, List, [], ◌∷◌, length, ap, IsTrue, ◌⊎◌, inl, inr, arith}
use Rattle.base_trait.specs.Algebra.{Algebra}
use Rattle.base_trait.specs.Laws.{Laws}
use Rattle.base_trait.specs.declared.uses.Stamp.{Stamp}
use Rattle.base_trait.proofs.Tests.{decide, not_both}
use Rattle.spec_ir.specs.declared.ty.Ty.{Ty}
use Rattle.spec_ir.specs.Specification.{Spec}
use Rattle.spec_ir.specs.WellFormed.{IsWellFormed}
use Rattle.semantics_values.specs.Types.{environment_of}
use Rattle.abstract_value_laws.specs.Abs.{Abs}
use Rattle.abstract_value_laws.specs.Calls.{absorbs_of, widen_of}
use Rattle.abstract_value_laws.specs.Shapes.{HasShape, ListsStamps, rank_of}
use Rattle.abstract_value_laws.proofs.Ranks.{rank_height, widen_falls}
use Rattle.abstract_value_laws.proofs.Widening.{widen_keeps}
use Rattle.abstract_value_laws.specs.TypeShapes.{shape_of}
use Rattle.abstract_value_laws.proofs.Typing.{types_are_shapes}
use Rattle.support_tail_fixpoint.specs.Groups.{EachIs}
use Rattle.support_tail_fixpoint.specs.Ranks.{RanksFall}
use Rattle.support_tail_fixpoint.proofs.Ranks.{group_ranks_fall}
use Rattle.support_tail_fixpoint.specs.Fitting.{WideningLowersRank}
use Rattle.abstract_semantics.specs.Calls.{all_absorb, list_moves, moves}
use Rattle.abstract_semantics.specs.Ranks.{args_height, args_rank, group_rank}
use Rattle.abstract_semantics.specs.Terms.{merge_all, params_of}
use Rattle.abstract_semantics.proofs.Termed.{ArgsOf}
use Rattle.abstract_semantics.proofs.Typed.{AreOf, IsOf, type_is}

-- a rank that does not rise, and falls where something is not absorbed
abbrev pub IsLower : ℕ → ℕ → Bool → Type 0
IsLower new old absorbed = (new ≤ old) × (absorbed ≡ false → new < old)

both_lower : (m n k j : ℕ) (p q : Bool) → IsLower m n p → IsLower k j q → IsLower (m + k) (n + j) (p && q)
both_lower m n k j p q h g = ((let x = h.0 in let y = g.0 in omega (arith, x, y)), λ e. sorted (not_both p q e))
  where
    sorted : (p ≡ false) ⊎ (q ≡ false) → m + k < n + j
    sorted (inl e) = let x = h.1 e in let y = g.0 in omega (arith, x, y)
    sorted (inr e) = let x = h.0 in let y = g.1 e in omega (arith, x, y)

module _ {W N C : Type 0} (B : Algebra W N C) (laws : Laws W N C B) (c : C) (cap : ℕ) (spec : Spec) (a : ℕ) (stamps : List Stamp) (formed : IsWellFormed (environment_of spec)) where
  shaped : (ty : Ty) (x : Abs W N) → IsOf B c cap (environment_of spec) (ListsStamps B stamps) ty x → HasShape (shape_of (environment_of spec) ty) x
  shaped ty x h = (types_are_shapes B (environment_of spec) ty x formed (type_is B c cap (environment_of spec) (ListsStamps B stamps) ty x h)).0 h.has

  pub args_high : (ts : List Ty) (xs : List (Abs W N)) → AreOf B c cap (environment_of spec) (ListsStamps B stamps) ts xs → args_rank B c cap spec stamps ts xs ≤ args_height B c cap spec stamps ts
  args_high [] [] h = omega arith
  args_high [] (x ∷ xs) h = absurd h
  args_high (t ∷ ts) [] h = absurd h
  args_high (t ∷ ts) (x ∷ xs) h =
      let first = rank_height B laws c cap stamps (shape_of (environment_of spec) t) x h.0.fits (shaped t x h.0) in
      let later = args_high ts xs h.1 in
      omega (arith, first, later)

  module _ (joins : IsTrue B.joins) where
    value_lowers : (ty : Ty) (x y : Abs W N) → IsOf B c cap (environment_of spec) (ListsStamps B stamps) ty x → IsOf B c cap (environment_of spec) (ListsStamps B stamps) ty y
        → IsLower (rank_of B cap c stamps (shape_of (environment_of spec) ty) (widen_of B c x y)) (rank_of B cap c stamps (shape_of (environment_of spec) ty) x) (absorbs_of B c x y)
    value_lowers ty x y h k = (no_more (decide (absorbs_of B c x y)), falls)
      where
        falls : absorbs_of B c x y ≡ false → rank_of B cap c stamps (shape_of (environment_of spec) ty) (widen_of B c x y) < rank_of B cap c stamps (shape_of (environment_of spec) ty) x
        falls e = widen_falls B laws c cap stamps (shape_of (environment_of spec) ty) x y joins h.fits k.fits (shaped ty x h) (shaped ty y k) h.also k.also e

        no_more : IsTrue (absorbs_of B c x y) ⊎ (absorbs_of B c x y ≡ false) → rank_of B cap c stamps (shape_of (environment_of spec) ty) (widen_of B c x y) ≤ rank_of B cap c stamps (shape_of (environment_of spec) ty) x
        no_more (inl e) = let same = ap (λ z. rank_of B cap c stamps (shape_of (environment_of spec) ty) z) (widen_keeps B laws c cap x y joins h.fits k.fits e) in omega (arith, same)
        no_more (inr e) = let lt = falls e in omega (arith, lt)

    args_lower : (ts : List Ty) (xs ys : List (Abs W N)) → AreOf B c cap (environment_of spec) (ListsStamps B stamps) ts xs → AreOf B c cap (environment_of spec) (ListsStamps B stamps) ts ys
        → IsLower (args_rank B c cap spec stamps ts (merge_all (widen_of B c) xs ys)) (args_rank B c cap spec stamps ts xs) (all_absorb (absorbs_of B c) xs ys)
    args_lower [] [] [] h k = (omega arith, λ e. cc)
    args_lower [] [] (y ∷ ys) h k = absurd k
    args_lower [] (x ∷ xs) ys h k = absurd h
    args_lower (t ∷ ts) [] ys h k = absurd h
    args_lower (t ∷ ts) (x ∷ xs) [] h k = absurd k
    args_lower (t ∷ ts) (x ∷ xs) (y ∷ ys) h k =
        both_lower (rank_of B cap c stamps (shape_of (environment_of spec) t) (widen_of B c x y)) (rank_of B cap c stamps (shape_of (environment_of spec) t) x)
        (args_rank B c cap spec stamps ts (merge_all (widen_of B c) xs ys)) (args_rank B c cap spec stamps ts xs) (absorbs_of B c x y) (all_absorb (absorbs_of B c) xs ys)
        (value_lowers t x y h.0 k.0) (args_lower ts xs ys h.1 k.1)

    args_fall : (g : ℕ) → RanksFall (list_moves B c cap) (ArgsOf B laws c cap spec a (ListsStamps B stamps) g) (λ f xs. args_rank B c cap spec stamps (params_of spec f) xs) (λ f. args_height B c cap spec stamps (params_of spec f)) (length spec.funs)
    args_fall g = record {
      counted = λ f xs h. h.there;
      bounded = λ f xs h. args_high (params_of spec f) xs h.are;
      stays = λ f old new h k. (args_lower (params_of spec f) old new h.are k.are).0;
      falls = λ f old new h k e. (args_lower (params_of spec f) old new h.are k.are).1 e;
    }

    -- of arguments of a group that list stamps alone
    pub groups_lower : (g : ℕ) → WideningLowersRank (moves B c cap) (EachIs (ArgsOf B laws c cap spec a (ListsStamps B stamps) g)) (group_rank B c cap spec stamps)
    groups_lower g = (group_ranks_fall (ArgsOf B laws c cap spec a (ListsStamps B stamps) g) (list_moves B c cap) (λ f xs. args_rank B c cap spec stamps (params_of spec f) xs) (λ f. args_height B c cap spec stamps (params_of spec f))
        (length spec.funs) (args_fall g)).0

-- Cells past what may be listed.
use Rattle.std.proofs.Common.{◌≡◌, ℕ, ◌+◌, Some, ◌^◌, ◌<◌, ◌≤◌, Bool, true, false, zero, suc, List, [], ◌∷◌, ◌++◌, length, take, drop, refl, sym, ap, subst, ◌∙◌, arith, IsTrue, cond, ◌⊎◌, inl, inr}
use Rattle.std.proofs.Math.Seq.{take-suc}
use Rattle.std.specs.Prelude.{slice_get}
use Rattle.std.proofs.lemmas.List.{drop_all}
use Rattle.abstract_map.proofs.Items.{item_is}
use Rattle.base_trait.specs.Algebra.{Algebra}
use Rattle.base_trait.specs.Lists.{Each, IsAscending}
use Rattle.abstract_map_laws.specs.declared.cell.AbstractCell.{AbstractCell}
use Rattle.abstract_map_laws.specs.Cells.{join_cells}
use Rattle.abstract_map_laws.specs.Maps.{Map, keys}
use Rattle.abstract_map_laws.specs.Calls.{folded, rest_with}
use Rattle.abstract_map_laws.proofs.Fitting.{length_keys, no_more}
use Rattle.abstract_map_laws.proofs.Joining.{take_all}

module _ {A : Type 0} where
  -- one less from the front
  pub take_back : (n i k : ℕ) (x : A) (es : List (ℕ × A)) → n ≡ i + 1 → n ≤ length es → slice_get es i ≡ Some (k, x) → take n es ≡ take i es ++ (k, x) ∷ []
  take_back n i k x es e l h =
      let next : n ≡ suc i = omega (arith, e) in
      ap (λ j. take j es) next ∙ take-suc es i (k, x) (omega (arith, e)) ∙ ap (λ y. take i es ++ y ∷ []) (sym (item_is es i k x h))

  drop_push : (n : ℕ) (xs : List A) (x : A) → n ≤ length xs → drop n (xs ++ x ∷ []) ≡ drop n xs ++ x ∷ []
  drop_push zero xs x l = refl
  drop_push (suc n) [] x l = absurd (omega arith)
  drop_push (suc n) (y ∷ xs) x l = drop_push n xs x (omega arith)

module _ {W N C : Type 0} (B : Algebra W N C) (c : C) (w cap : ℕ) where
  rest_push : (rest : AbstractCell W N) (es : List (ℕ × AbstractCell W N)) (x : ℕ × AbstractCell W N) → rest_with B c w rest (es ++ x ∷ []) ≡ rest_with B c w (join_cells B c w rest x.1) es
  rest_push rest [] x = refl
  rest_push rest (e ∷ es) x = ap (λ r. join_cells B c w r e.1) (rest_push rest es x)

  -- the last cell goes into the rest
  pub fold_rest : (rest rest' : AbstractCell W N) (es front : List (ℕ × AbstractCell W N)) (x : ℕ × AbstractCell W N) → es ≡ front ++ x ∷ [] → cap ≤ length front → rest' ≡ join_cells B c w rest x.1
      → rest_with B c w rest' (drop cap front) ≡ rest_with B c w rest (drop cap es)
  fold_rest rest rest' es front x e l r =
      ap (λ t. rest_with B c w t (drop cap front)) r ∙ sym (rest_push rest (drop cap front) x) ∙ ap (λ xs. rest_with B c w rest xs) (sym (drop_push cap front x l) ∙ ap (λ xs. drop cap xs) (sym e))

  -- the map of the rest and of the cells that are left
  pub fold_made : (rest rest' : AbstractCell W N) (es es' : List (ℕ × AbstractCell W N)) → IsTrue B.joins ⊎ (length es ≤ cap) → rest' ≡ rest_with B c w rest (drop cap es) → es' ≡ take cap es
      → ◌≡◌ {A = Map W N} (record { width = w; rest = rest'; cells = es' }) (folded B c cap (record { width = w; rest = rest; cells = es }))
  fold_made rest rest' es es' room r e =
      ap (λ t. record { width = w; rest = t; cells = es' }) r ∙ ap (λ xs. record { width = w; rest = rest_with B c w rest (drop cap es); cells = xs }) e ∙ by_joins B.joins room
    where
      by_joins : (b : Bool) → IsTrue b ⊎ (length es ≤ cap)
          → ◌≡◌ {A = Map W N} (record { width = w; rest = rest_with B c w rest (drop cap es); cells = take cap es }) (record { width = w; rest = cond b (rest_with B c w rest (drop cap es)) rest; cells = cond b (take cap es) es })
      by_joins true u = refl
      by_joins false (inl t) = cc
      by_joins false (inr l) = ap (λ xs. record { width = w; rest = rest_with B c w rest xs; cells = take cap es }) (drop_all cap es l) ∙ ap (λ xs. record { width = w; rest = rest; cells = xs }) (take_all cap es l)

-- where a base does not join, no more is listed than may be
pub room_for : {W N C : Type 0} (B : Algebra W N C) (cap : ℕ) (own m : Map W N) → own ≡ m → cap ≡ cond B.joins 256 (2 ^ 32) → IsAscending (keys m) → Each (λ k. k < 2 ^ 32) (keys m) → IsTrue B.joins ⊎ (length own.cells ≤ cap)
room_for B cap own m e capacity order bound = subst (λ t. IsTrue B.joins ⊎ (length t.cells ≤ cap)) (sym e) (subst (λ n. IsTrue B.joins ⊎ (n ≤ cap)) (length_keys m.cells) (no_more B cap (keys m) capacity order bound))

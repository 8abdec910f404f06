-- Parts of trees, by keys.
use Rattle.std.proofs.Common.{◌≡◌, ℕ, ◌+◌, ◌≤◌, List, [], ◌∷◌, map, length, arith, sym, subst}
use Rattle.abstract_cell_tree.specs.Entries.{Alike, Between}
use Rattle.abstract_cell_tree.specs.Walks.{AlikeWithin, AreSidesOf}
use Rattle.abstract_cell_tree.specs.declared.walk.Sides.{Sides}
use Rattle.abstract_cell_tree.proofs.Beside.{between_order, side_by_side}

first_is : (j k : ℕ) (js ks : List ℕ) → j ∷ js ≡ k ∷ ks → j ≡ k
first_is j k js ks h = cc

others_are : (j k : ℕ) (js ks : List ℕ) → j ∷ js ≡ k ∷ ks → js ≡ ks
others_are j k js ks h = cc

module _ {A : Type 0} where
  -- entries within bounds have keys within them
  pub alike_within : (a b : ℕ) (es xs ys : List (ℕ × A)) → Between a (b + 1) es → AlikeWithin a b xs ys → Alike es xs ys
  alike_within a b [] xs ys h f = tt
  alike_within a b (e ∷ es) xs ys h f =
      let first = h.0 in
      let last = between_order (e.0 + 1) (b + 1) es h.1 in
      (f e.0 first (omega (arith, last)), alike_within (e.0 + 1) b es xs ys h.1 (λ k l r. f k (omega (arith, first, l)) r))

  nothing_is : (y : ℕ × A) (ys : List (ℕ × A)) → ◌≡◌ {A = List ℕ} [] (y.0 ∷ map (λ e. e.0) ys) → ⊥
  nothing_is y ys h = cc

  something_is : (x : ℕ × A) (xs : List (ℕ × A)) → ◌≡◌ {A = List ℕ} (x.0 ∷ map (λ e. e.0) xs) [] → ⊥
  something_is x xs h = cc

  -- bounds are of keys alone
  pub between_keys : (a b : ℕ) (xs ys : List (ℕ × A)) → map (λ e. e.0) xs ≡ map (λ e. e.0) ys → Between a b ys → Between a b xs
  between_keys a b [] [] s h = h
  between_keys a b [] (y ∷ ys) s h = absurd (nothing_is y ys s)
  between_keys a b (x ∷ xs) [] s h = absurd (something_is x xs s)
  between_keys a b (x ∷ xs) (y ∷ ys) s h =
      let same = first_is x.0 y.0 (map (λ e. e.0) xs) (map (λ e. e.0) ys) s in
      let first = h.0 in
      (omega (arith, first, same), subst (λ k. Between (k + 1) b xs) (sym same) (between_keys (y.0 + 1) b xs ys (others_are x.0 y.0 (map (λ e. e.0) xs) (map (λ e. e.0) ys) s) h.1))

  pub some_keys : (xs ys : List (ℕ × A)) → map (λ e. e.0) xs ≡ map (λ e. e.0) ys → 1 ≤ length ys → 1 ≤ length xs
  some_keys [] [] s l = l
  some_keys [] (y ∷ ys) s l = absurd (nothing_is y ys s)
  some_keys (x ∷ xs) ys s l = omega arith

  pub sides_within : (es : List (ℕ × A)) (s : Sides A) → AreSidesOf es s → Between s.low (s.high + 1) es
  sides_within es s h = subst (λ l. Between s.low (s.high + 1) l) (sym h.is) (side_by_side s.low s.split (s.high + 1) s.left.now s.right.now h.below h.above)

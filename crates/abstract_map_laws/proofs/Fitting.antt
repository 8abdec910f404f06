-- Results fit.
use Rattle.std.proofs.Common.{◌≡◌, ℕ, ◌+◌, ◌<◌, ◌≤◌, Bool, true, false, List, [], ◌∷◌, map, length, take, zero, suc, refl, sym, ap, ◌∙◌, subst, arith, IsTrue, cond, ◌⊎◌, inl, inr}
use Rattle.std.specs.Prelude.{◌^◌, ◌==◌}
use Rattle.word_operations.specs.Width.{IsWidth}
use Rattle.base_trait.specs.Algebra.{Algebra}
use Rattle.base_trait.specs.Laws.{Laws}
use Rattle.base_trait.specs.Lists.{IsAmong, Each, IsAscending, IsAscendingFrom}
use Rattle.base_trait.proofs.Lists.{each_at, each_from}
use Rattle.abstract_map_laws.specs.declared.cell.AbstractCell.{AbstractCell}
use Rattle.abstract_map_laws.specs.Cells.{CellFits, join_cells, widen_cells}
use Rattle.abstract_map_laws.specs.Keys.{one, some, has_key, with_key, either_key}
use Rattle.abstract_map_laws.specs.Maps.{Map, keys, cell, EachCell, Fits}
use Rattle.abstract_map_laws.specs.Calls.{folded, written, merged, update_of, widen_of}
use Rattle.abstract_map_laws.specs.Laws.{HasRoom, UpdateFits, JoinFits, WidenFits}
use Rattle.abstract_map_laws.proofs.CellLaws.{cell_join_fits}
use Rattle.abstract_map_laws.proofs.KeyLists.{with_ascends, with_only, either_ascends, either_only}
use Rattle.abstract_map_laws.proofs.Places.{keys_of_cells}
use Rattle.abstract_map_laws.proofs.Writing.{update_each}
use Rattle.abstract_map_laws.proofs.Joining.{join_each, fit_at, length_made}
use Rattle.abstract_map_laws.proofs.Widening.{widened_fit}

-- ascending numbers below a bound are no more than it
few_from : (low n : ℕ) (ks : List ℕ) → low ≤ n → IsAscendingFrom low ks → Each (λ k. k < n) ks → low + length ks ≤ n
few_from low n [] l h g = omega (arith, l)
few_from low n (k ∷ ks) l h g = let here = h.0 in let below = g.0 in let later = few_from (k + 1) n ks (omega (arith, below)) h.1 g.1 in omega (arith, here, later)

module _ {A : Type 0} where
  first_ascends : (low n : ℕ) (es : List (ℕ × A)) → IsAscendingFrom low (map (λ e. e.0) es) → IsAscendingFrom low (map (λ e. e.0) (take n es))
  first_ascends low zero es h = tt
  first_ascends low (suc n) [] h = tt
  first_ascends low (suc n) (e ∷ es) h = (h.0, first_ascends (e.0 + 1) n es h.1)

  pub first_each : (P : ℕ → Type 0) (n : ℕ) (es : List (ℕ × A)) → Each P (map (λ e. e.0) es) → Each P (map (λ e. e.0) (take n es))
  first_each P zero es h = tt
  first_each P (suc n) [] h = tt
  first_each P (suc n) (e ∷ es) h = (h.0, first_each P n es h.1)

  first_few : (n : ℕ) (es : List (ℕ × A)) → length (take n es) ≤ n
  first_few zero es = omega arith
  first_few (suc n) [] = omega arith
  first_few (suc n) (e ∷ es) = let later = first_few n es in omega (arith, later)

  pub length_keys : (es : List (ℕ × A)) → length (map (λ e. e.0) es) ≡ length es
  length_keys [] = refl
  length_keys (e ∷ es) = ap (λ n. suc n) (length_keys es)

each_below : (n : ℕ) (ks : List ℕ) → ((k : ℕ) → IsAmong k ks → k < n) → Each (λ k. k < n) ks
each_below n ks h = each_from (λ k. k < n) ks h

pub each_zero : (ks : List ℕ) → Each (λ k. 0 ≤ k) ks
each_zero [] = tt
each_zero (k ∷ ks) = (omega arith, each_zero ks)

module _ {W N : Type 0} (m : Map W N) (j : ℕ) (x : AbstractCell W N) where
  written_keys : keys (written m j x) ≡ with_key j (keys m)
  written_keys = keys_of_cells (with_key j (keys m)) (λ k. cond (k == j) x (cell m k))

  -- a map that was written to keeps the order, and has keys below the bound
  pub written_order : IsAscending (keys m) → IsAscending (keys (written m j x))
  written_order order = subst (λ ks. IsAscending ks) (sym written_keys) (with_ascends 0 j (keys m) (omega arith) order)

  pub written_bound : j < 2 ^ 32 → Each (λ k. k < 2 ^ 32) (keys m) → Each (λ k. k < 2 ^ 32) (keys (written m j x))
  written_bound keyed bound = subst (λ ks. Each (λ k. k < 2 ^ 32) ks) (sym written_keys) (each_from (λ k. k < 2 ^ 32) (with_key j (keys m)) (λ k a. sorted k (with_only k j (keys m) a)))
    where
      sorted : (k : ℕ) → (k ≡ j) ⊎ IsAmong k (keys m) → k < 2 ^ 32
      sorted k (inl e) = subst (λ t. t < 2 ^ 32) (sym e) keyed
      sorted k (inr a) = each_at (λ k. k < 2 ^ 32) (keys m) k bound a

module _ {W N C : Type 0} (B : Algebra W N C) (c : C) (m n : Map W N) where
  merged_keys : keys (merged B c m n) ≡ either_key (keys m) (keys n)
  merged_keys = keys_of_cells (either_key (keys m) (keys n)) (λ k. join_cells B c m.width (cell m k) (cell n k))

  pub merged_order : IsAscending (keys m) → IsAscending (keys n) → IsAscending (keys (merged B c m n))
  merged_order left right = subst (λ ks. IsAscending ks) (sym merged_keys) (either_ascends 0 (keys m) (keys n) (each_zero (keys m)) right)

  pub merged_bound : Each (λ k. k < 2 ^ 32) (keys m) → Each (λ k. k < 2 ^ 32) (keys n) → Each (λ k. k < 2 ^ 32) (keys (merged B c m n))
  merged_bound left right = subst (λ ks. Each (λ k. k < 2 ^ 32) ks) (sym merged_keys) (each_from (λ k. k < 2 ^ 32) (either_key (keys m) (keys n)) (λ k a. sorted k (either_only k (keys m) (keys n) a)))
    where
      sorted : (k : ℕ) → IsAmong k (keys m) ⊎ IsAmong k (keys n) → k < 2 ^ 32
      sorted k (inl a) = each_at (λ k. k < 2 ^ 32) (keys m) k left a
      sorted k (inr a) = each_at (λ k. k < 2 ^ 32) (keys n) k right a

module _ {W N C : Type 0} (B : Algebra W N C) where
  -- what a base may list is room
  pub room : (cap : ℕ) → cap ≡ cond B.joins 256 (2 ^ 32) → HasRoom B cap
  room cap e = by_joins B.joins e
    where
      by_joins : (b : Bool) → cap ≡ cond b 256 (2 ^ 32) → IsTrue b ⊎ (2 ^ 32 ≤ cap)
      by_joins true e = inl refl
      by_joins false e = inr (omega (arith, e))

  -- where a base does not join, there are no more keys than it may list
  pub no_more : (cap : ℕ) (ks : List ℕ) → cap ≡ cond B.joins 256 (2 ^ 32) → IsAscending ks → Each (λ k. k < 2 ^ 32) ks → IsTrue B.joins ⊎ (length ks ≤ cap)
  no_more cap ks e order bound = by_room (room cap e)
    where
      by_room : IsTrue B.joins ⊎ (2 ^ 32 ≤ cap) → IsTrue B.joins ⊎ (length ks ≤ cap)
      by_room (inl j) = inl j
      by_room (inr l) = let few = few_from 0 (2 ^ 32) ks (omega arith) order bound in inr (omega (arith, few, l))

  -- a folded map keeps the order, and has room
  pub folded_fits : (c : C) (cap : ℕ) (m : Map W N) → HasRoom B cap → IsWidth m.width → EachCell (CellFits B c m.width) (folded B c cap m) → IsAscending (keys m) → Each (λ k. k < 2 ^ 32) (keys m) → Fits B c cap (folded B c cap m)
  folded_fits c cap m room ok cells order bound = record { width = ok; cells = cells; order = (by_joins B.joins).0; bound = (by_joins B.joins).1; few = at_most B.joins room }
    where
      by_joins : (b : Bool) → IsAscending (map (λ e. e.0) (cond b (take cap m.cells) m.cells)) × Each (λ k. k < 2 ^ 32) (map (λ e. e.0) (cond b (take cap m.cells) m.cells))
      by_joins true = (first_ascends 0 cap m.cells order, first_each (λ k. k < 2 ^ 32) cap m.cells bound)
      by_joins false = (order, bound)

      at_most : (b : Bool) → IsTrue b ⊎ (2 ^ 32 ≤ cap) → length (cond b (take cap m.cells) m.cells) ≤ cap
      at_most true r = first_few cap m.cells
      at_most false (inl t) = cc
      at_most false (inr r) = let few = few_from 0 (2 ^ 32) (keys m) (omega arith) order bound in let same = length_keys m.cells in omega (arith, few, same, r)

  module _ (L : Laws W N C B) where
    pub join_fits : JoinFits B
    join_fits c cap m n room fm fn e = folded_fits c cap (merged B c m n) room fm.width
        (join_each B c cap m n (CellFits B c m.width) (cell_join_fits B L c m.width fm.width) fm.cells (fit_at B c n m.width e fn.cells))
        (merged_order B c m n fm.order fn.order) (merged_bound B c m n fm.bound fn.bound)

    pub update_fits : UpdateFits B
    update_fits c cap m (one j) x room keyed fm fx = folded_fits c cap (written m j x) room fm.width
        (update_each B c cap m (CellFits B c m.width) (cell_join_fits B L c m.width fm.width) (one j) x fm.cells fx)
        (written_order m j x fm.order) (written_bound m j x keyed fm.bound)
    update_fits c cap m (some ks all) x room keyed fm fx = record {
      width = fm.width;
      cells = update_each B c cap m (CellFits B c m.width) (cell_join_fits B L c m.width fm.width) (some ks all) x fm.cells fx;
      order = subst (λ ks. IsAscending ks) (sym made) fm.order;
      bound = subst (λ ks. Each (λ k. k < 2 ^ 32) ks) (sym made) fm.bound;
      few = subst (λ n. n ≤ cap) (sym (length_made (keys m) (λ k. cond (has_key ks k) (join_cells B c m.width (cell m k) x) (cell m k)) ∙ length_keys m.cells)) fm.few;
    }
      where
        made : keys (update_of B c cap m (some ks all) x) ≡ keys m
        made = keys_of_cells (keys m) (λ k. cond (has_key ks k) (join_cells B c m.width (cell m k) x) (cell m k))

    pub widen_fits : WidenFits B
    widen_fits c cap old new fo fn e = record {
      width = fo.width;
      cells = widened_fit B L c old new fo.width fo.cells (fit_at B c new old.width e fn.cells);
      order = subst (λ ks. IsAscending ks) (sym made) fo.order;
      bound = subst (λ ks. Each (λ k. k < 2 ^ 32) ks) (sym made) fo.bound;
      few = subst (λ n. n ≤ cap) (sym (length_made (keys old) (λ k. widen_cells B c old.width (cell old k) (cell new k)) ∙ length_keys old.cells)) fo.few;
    }
      where
        made : keys (widen_of B c old new) ≡ keys old
        made = keys_of_cells (keys old) (λ k. widen_cells B c old.width (cell old k) (cell new k))

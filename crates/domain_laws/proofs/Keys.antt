-- Keys of maps that calls give.
use Rattle.std.proofs.Common.{◌≡◌, ℕ, Bool, true, false, map, take, sym, subst, cond, ◌⊎◌, inl, inr}
use Rattle.std.specs.Prelude.{◌==◌}
use Rattle.base_trait.specs.Algebra.{Algebra}
use Rattle.base_trait.specs.Lists.{Each, IsAmong}
use Rattle.base_trait.proofs.Lists.{each_at, each_from}
use Rattle.abstract_map_laws.specs.declared.cell.AbstractCell.{AbstractCell}
use Rattle.abstract_map_laws.specs.Calls.{folded, join_of, merged, update_of, widen_of, written}
use Rattle.abstract_map_laws.specs.Cells.{join_cells, widen_cells}
use Rattle.abstract_map_laws.specs.Keys.{either_key, one, with_key}
use Rattle.abstract_map_laws.specs.Maps.{Map, cell, keys}
use Rattle.abstract_map_laws.proofs.KeyLists.{either_only, with_only}
use Rattle.abstract_map_laws.proofs.Places.{keys_of_cells}
use Rattle.abstract_map_laws.proofs.Fitting.{first_each}

module _ {W N C : Type 0} (B : Algebra W N C) (c : C) (cap : ℕ) (P : ℕ → Type 0) where
  folded_keys : (m : Map W N) → Each P (keys m) → Each P (keys (folded B c cap m))
  folded_keys m h = by_joins B.joins
    where
      by_joins : (b : Bool) → Each P (map (λ e. e.0) (cond b (take cap m.cells) m.cells))
      by_joins true = first_each P cap m.cells h
      by_joins false = h

  pub join_keys : (m n : Map W N) → Each P (keys m) → Each P (keys n) → Each P (keys (join_of B c cap m n))
  join_keys m n h g = folded_keys (merged B c m n) (subst (Each P) (sym made) (each_from P (either_key (keys m) (keys n)) (λ k a. sorted k (either_only k (keys m) (keys n) a))))
    where
      made : keys (merged B c m n) ≡ either_key (keys m) (keys n)
      made = keys_of_cells (either_key (keys m) (keys n)) (λ k. join_cells B c m.width (cell m k) (cell n k))

      sorted : (k : ℕ) → IsAmong k (keys m) ⊎ IsAmong k (keys n) → P k
      sorted k (inl a) = each_at P (keys m) k h a
      sorted k (inr a) = each_at P (keys n) k g a

  pub widen_keys : (old new : Map W N) → Each P (keys old) → Each P (keys (widen_of B c old new))
  widen_keys old new h = subst (Each P) (sym (keys_of_cells (keys old) (λ k. widen_cells B c old.width (cell old k) (cell new k)))) h

  pub update_keys : (m : Map W N) (j : ℕ) (x : AbstractCell W N) → P j → Each P (keys m) → Each P (keys (update_of B c cap m (one j) x))
  update_keys m j x p h = folded_keys (written m j x) (subst (Each P) (sym made) (each_from P (with_key j (keys m)) (λ k a. sorted k (with_only k j (keys m) a))))
    where
      made : keys (written m j x) ≡ with_key j (keys m)
      made = keys_of_cells (with_key j (keys m)) (λ k. cond (k == j) x (cell m k))

      sorted : (k : ℕ) → (k ≡ j) ⊎ IsAmong k (keys m) → P k
      sorted k (inl e) = subst P (sym e) p
      sorted k (inr a) = each_at P (keys m) k h a

-- Calls on maps, by keys.
use Rattle.std.specs.Prelude.{ℕ, ◌+◌, ◌*◌, ◌==◌, Bool, ◌&&◌, not, List, [], ◌∷◌, ◌++◌, map, take, drop, if◌then◌else◌}
use Rattle.std.specs.List.{filter, list_all, sum_by}
use Rattle.base_trait.specs.Algebra.{Algebra}
use Rattle.base_trait.specs.declared.uses.Stamp.{Stamp}
use Rattle.abstract_map_laws.specs.declared.cell.AbstractCell.{AbstractCell}
use Rattle.abstract_map_laws.specs.Cells.{join_cells, widen_cells, absorbs_cell, rank_cell, joined}
use Rattle.abstract_map_laws.specs.Keys.{Keys, one, some, has_key, with_key, either_key}
use Rattle.abstract_map_laws.specs.Maps.{Map, keys, cell, cells_at}

module _ {W N : Type 0} where
  -- the map with a cell written at one key
  abbrev pub written : Map W N → ℕ → AbstractCell W N → Map W N
  written m k x = record { width = m.width; rest = m.rest; cells = cells_at (with_key k (keys m)) (λ j. if j == k then x else cell m j) }

  -- the cells that the new map alone lists
  abbrev pub news : Map W N → Map W N → List (AbstractCell W N)
  news old new = map (cell new) (filter (λ k. not (has_key (keys old) k)) (keys new))

module _ {W N C : Type 0} (B : Algebra W N C) (c : C) where
  -- a rest joined with the cells behind it, that of the greatest key first
  abbrev pub rest_with : ℕ → AbstractCell W N → List (ℕ × AbstractCell W N) → AbstractCell W N
  rest_with w rest [] = rest
  rest_with w rest (e ∷ es) = join_cells B c w (rest_with w rest es) e.1

  -- on a base that joins, the cell of the greatest key goes into the rest until cap are left
  abbrev pub folded : ℕ → Map W N → Map W N
  folded cap m = record {
    width = m.width;
    rest = if B.joins then rest_with m.width m.rest (drop cap m.cells) else m.rest;
    cells = if B.joins then take cap m.cells else m.cells;
  }

  -- the first cell joined with the others, or else the rest
  abbrev pub all_joined : ℕ → AbstractCell W N → List (AbstractCell W N) → AbstractCell W N
  all_joined w rest [] = rest
  all_joined w rest (x ∷ xs) = joined B c w x xs

  -- what a read at a key gives
  abbrev pub access_of : Map W N → Keys → AbstractCell W N
  access_of m (one k) = cell m k
  access_of m (some ks all_listed) = all_joined m.width m.rest (map (cell m) ks ++ (if all_listed then [] else m.rest ∷ []))

  -- the map with a cell written at a key, with room for cap cells
  abbrev pub update_of : ℕ → Map W N → Keys → AbstractCell W N → Map W N
  update_of cap m (one k) x = folded cap (written m k x)
  update_of cap m (some ks all_listed) x = record {
    width = m.width;
    rest = if all_listed then m.rest else join_cells B c m.width m.rest x;
    cells = cells_at (keys m) (λ j. if has_key ks j then join_cells B c m.width (cell m j) x else cell m j);
  }

  -- the keys of either
  abbrev pub merged : Map W N → Map W N → Map W N
  merged m n = record {
    width = m.width;
    rest = join_cells B c m.width m.rest n.rest;
    cells = cells_at (either_key (keys m) (keys n)) (λ k. join_cells B c m.width (cell m k) (cell n k));
  }

  -- the same, with room for cap cells
  abbrev pub join_of : ℕ → Map W N → Map W N → Map W N
  join_of cap m n = folded cap (merged m n)

  -- the old keys
  abbrev pub widen_of : Map W N → Map W N → Map W N
  widen_of old new = record {
    width = old.width;
    rest = widen_cells B c old.width old.rest (joined B c old.width new.rest (news old new));
    cells = cells_at (keys old) (λ k. widen_cells B c old.width (cell old k) (cell new k));
  }

  -- at each key that either lists, and at the rest
  abbrev pub absorbs_of : Map W N → Map W N → Bool
  absorbs_of old new = list_all (λ k. absorbs_cell B c old.width (cell old k) (cell new k)) (either_key (keys old) (keys new)) && absorbs_cell B c old.width old.rest new.rest

  -- by a list of stamps
  abbrev pub rank_of : List Stamp → Map W N → ℕ
  rank_of stamps m = rank_cell B c m.width stamps m.rest + sum_by (λ e. rank_cell B c m.width stamps e.1) m.cells

-- the most that the rank of a map of at most cap cells can be, by a list of so many stamps
abbrev pub height_of : {W N C : Type 0} → Algebra W N C → ℕ → ℕ → ℕ → ℕ
height_of B cap w stamps = (cap + 1) * (B.words.height w + B.notes.height stamps)

-- What is read.
use Rattle.std.proofs.Common.{◌≡◌, ℕ, Bool, true, false, List, [], ◌∷◌, map, refl, sym, subst, IsTrue, cond, ◌⊎◌, inl, inr}
use Rattle.std.specs.Prelude.{◌++◌}
use Rattle.word_operations.specs.Width.{IsWidth}
use Rattle.base_trait.specs.Algebra.{Algebra}
use Rattle.base_trait.specs.Laws.{Laws}
use Rattle.base_trait.specs.Lists.{IsAmong, Each}
use Rattle.base_trait.proofs.Lists.{among_map, among_left, among_right}
use Rattle.abstract_map_laws.specs.declared.cell.AbstractCell.{AbstractCell}
use Rattle.abstract_map_laws.specs.Cells.{CellDescribes, CellFits, ListsOnly, join_cells, absorbs_cell, joined}
use Rattle.abstract_map_laws.specs.Keys.{Keys, one, some}
use Rattle.abstract_map_laws.specs.Maps.{Map, keys, cell, EachCell}
use Rattle.abstract_map_laws.specs.Calls.{all_joined, access_of}
use Rattle.abstract_map_laws.specs.Laws.{AccessDescribes, AccessFits, AccessLists}
use Rattle.abstract_map_laws.proofs.CellLaws.{joined_first, joined_item, cell_describes, cell_join_fits, cell_join_lists}
use Rattle.abstract_map_laws.proofs.Places.{cell_past, each_cell}

-- what a join keeps holds of what is read
module _ {W N C : Type 0} (B : Algebra W N C) (c : C) (w : ℕ) (P : AbstractCell W N → Type 0) (closed : (x y : AbstractCell W N) → P x → P y → P (join_cells B c w x y)) where
  pub joined_each : (x : AbstractCell W N) (xs : List (AbstractCell W N)) → P x → Each P xs → P (joined B c w x xs)
  joined_each x [] h g = h
  joined_each x (y ∷ ys) h g = joined_each (join_cells B c w x y) ys (closed x y h g.0) g.1

  pub all_joined_each : (rest : AbstractCell W N) (xs : List (AbstractCell W N)) → P rest → Each P xs → P (all_joined B c w rest xs)
  all_joined_each rest [] h g = h
  all_joined_each rest (x ∷ xs) h g = joined_each x xs g.0 g.1

-- P holds of each cell that is read
pub each_read : {W N : Type 0} (P : AbstractCell W N → Type 0) (m : Map W N) (ks : List ℕ) (all : Bool) → EachCell P m → Each P (map (cell m) ks ++ cond all [] (m.rest ∷ []))
each_read P m [] true h = tt
each_read P m [] false h = (h.0, tt)
each_read P m (k ∷ ks) all h = (each_cell P m.rest m.cells k h.0 h.1, each_read P m ks all h)

pub access_each : {W N C : Type 0} (B : Algebra W N C) (c : C) (m : Map W N) (P : AbstractCell W N → Type 0) (closed : (x y : AbstractCell W N) → P x → P y → P (join_cells B c m.width x y)) (ks : Keys)
    → EachCell P m → P (access_of B c m ks)
access_each B c m P closed (one k) h = each_cell P m.rest m.cells k h.0 h.1
access_each B c m P closed (some ks all) h = all_joined_each B c m.width P closed m.rest (map (cell m) ks ++ cond all [] (m.rest ∷ [])) h.0 (each_read P m ks all h)

module _ {W N C : Type 0} (B : Algebra W N C) (L : Laws W N C B) where
  pub access_fits : AccessFits B
  access_fits c cap m ks fit = access_each B c m (CellFits B c m.width) (cell_join_fits B L c m.width fit.width) ks fit.cells

  pub access_lists : AccessLists B
  access_lists c stamps m ks h = access_each B c m (ListsOnly B stamps) (cell_join_lists B L c m.width stamps) ks h

  -- the join of the cells that are read absorbs each
  all_joined_over : (c : C) (w : ℕ) → IsWidth w → IsTrue B.joins → (rest : AbstractCell W N) (xs : List (AbstractCell W N)) (z : AbstractCell W N) → Each (CellFits B c w) xs → IsAmong z xs
      → IsTrue (absorbs_cell B c w (all_joined B c w rest xs) z)
  all_joined_over c w ok j rest [] z g a = absurd a
  all_joined_over c w ok j rest (x ∷ xs) z g (inl e) = subst (λ t. IsTrue (absorbs_cell B c w (joined B c w x xs) t)) (sym e) (joined_first B L c w ok x xs j g.0 g.1)
  all_joined_over c w ok j rest (x ∷ xs) z g (inr a) = joined_item B L c w ok x xs z j g.0 g.1 a

  pub access_describes : AccessDescribes B
  access_describes c cap valuation f m (one j) k fit may d e = subst (λ t. CellDescribes B valuation m.width (f k) (cell m t)) e (d k)
  access_describes c cap valuation f m (some ks all) k fit may d h =
      cell_describes B L c m.width fit.width valuation (f k) (access_of B c m (some ks all)) (cell m k) (access_fits c cap m (some ks all) fit) (each_cell (CellFits B c m.width) m.rest m.cells k fit.cells.0 fit.cells.1)
      (all_joined_over c m.width fit.width may m.rest (map (cell m) ks ++ cond all [] (m.rest ∷ [])) (cell m k) (each_read (CellFits B c m.width) m ks all fit.cells) (among h)) (d k)
    where
      last : (b : Bool) → b ≡ false → IsAmong m.rest (map (cell m) ks ++ cond b [] (m.rest ∷ []))
      last true e = cc
      last false e = among_right m.rest (map (cell m) ks) (m.rest ∷ []) (inl refl)

      among : IsAmong k ks ⊎ ((all ≡ false) × (IsAmong k (keys m) → ⊥)) → IsAmong (cell m k) (map (cell m) ks ++ cond all [] (m.rest ∷ []))
      among (inl a) = among_left (cell m k) (map (cell m) ks) (cond all [] (m.rest ∷ [])) (among_map (cell m) k ks a)
      among (inr n) = subst (λ t. IsAmong t (map (cell m) ks ++ cond all [] (m.rest ∷ []))) (sym (cell_past m.rest m.cells k n.1)) (last all n.0)

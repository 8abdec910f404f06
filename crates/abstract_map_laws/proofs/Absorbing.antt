-- Absorption by keys, and folding.
use Rattle.std.proofs.Common.{ℕ, Bool, true, false, List, [], ◌∷◌, take, drop, zero, suc, refl, sym, subst, IsTrue, cond, ◌⊎◌, inl, inr}
use Rattle.std.specs.Prelude.{◌==◌}
use Rattle.std.specs.List.{list_all}
use Rattle.word_operations.specs.Width.{IsWidth}
use Rattle.base_trait.specs.Algebra.{Algebra}
use Rattle.base_trait.specs.Laws.{Laws}
use Rattle.base_trait.specs.Lists.{IsAmong, Each}
use Rattle.base_trait.proofs.Lists.{all_told, each_at, each_from}
use Rattle.base_trait.proofs.Tests.{and_both, and_parts, at_choice}
use Rattle.abstract_map_laws.specs.declared.cell.AbstractCell.{AbstractCell}
use Rattle.abstract_map_laws.specs.Cells.{CellFits, join_cells, absorbs_cell}
use Rattle.abstract_map_laws.specs.Keys.{either_key}
use Rattle.abstract_map_laws.specs.Maps.{Map, keys, cell, cell_in, EachCell}
use Rattle.abstract_map_laws.specs.Calls.{rest_with, folded, absorbs_of}
use Rattle.abstract_map_laws.proofs.CellLaws.{cell_itself, cell_on, cell_join_fits, cell_join_left, cell_join_right}
use Rattle.abstract_map_laws.proofs.KeyLists.{sort_key, either_left, either_right}
use Rattle.abstract_map_laws.proofs.Places.{cell_past, each_cell}

-- ---- the test, by keys
module _ {W N C : Type 0} (B : Algebra W N C) (c : C) where
  pub absorbed_rest : (old new : Map W N) → IsTrue (absorbs_of B c old new) → IsTrue (absorbs_cell B c old.width old.rest new.rest)
  absorbed_rest old new h = (and_parts (list_all (λ k. absorbs_cell B c old.width (cell old k) (cell new k)) (either_key (keys old) (keys new))) (absorbs_cell B c old.width old.rest new.rest) h).1

  pub absorbed_at : (old new : Map W N) (k : ℕ) → IsTrue (absorbs_of B c old new) → IsTrue (absorbs_cell B c old.width (cell old k) (cell new k))
  absorbed_at old new k h = sorted (sort_key k (either_key (keys old) (keys new)))
    where
      both : IsTrue (list_all (λ k. absorbs_cell B c old.width (cell old k) (cell new k)) (either_key (keys old) (keys new))) × IsTrue (absorbs_cell B c old.width old.rest new.rest)
      both = and_parts (list_all (λ k. absorbs_cell B c old.width (cell old k) (cell new k)) (either_key (keys old) (keys new))) (absorbs_cell B c old.width old.rest new.rest) h

      sorted : IsAmong k (either_key (keys old) (keys new)) ⊎ (IsAmong k (either_key (keys old) (keys new)) → ⊥) → IsTrue (absorbs_cell B c old.width (cell old k) (cell new k))
      sorted (inl a) = each_at (λ k. IsTrue (absorbs_cell B c old.width (cell old k) (cell new k))) (either_key (keys old) (keys new)) k
          ((all_told (λ k. absorbs_cell B c old.width (cell old k) (cell new k)) (either_key (keys old) (keys new))).0 both.0) a
      sorted (inr n) = subst (λ t. IsTrue (absorbs_cell B c old.width t (cell new k))) (sym (cell_past old.rest old.cells k (λ a. n (either_left k (keys old) (keys new) a))))
          (subst (λ t. IsTrue (absorbs_cell B c old.width old.rest t)) (sym (cell_past new.rest new.cells k (λ a. n (either_right k (keys old) (keys new) a)))) both.1)

  pub absorbs_from : (old new : Map W N) → ((k : ℕ) → IsAmong k (either_key (keys old) (keys new)) → IsTrue (absorbs_cell B c old.width (cell old k) (cell new k))) → IsTrue (absorbs_cell B c old.width old.rest new.rest)
      → IsTrue (absorbs_of B c old new)
  absorbs_from old new h r = and_both (list_all (λ k. absorbs_cell B c old.width (cell old k) (cell new k)) (either_key (keys old) (keys new))) (absorbs_cell B c old.width old.rest new.rest)
      ((all_told (λ k. absorbs_cell B c old.width (cell old k) (cell new k)) (either_key (keys old) (keys new))).1 (each_from (λ k. IsTrue (absorbs_cell B c old.width (cell old k) (cell new k))) (either_key (keys old) (keys new)) h)) r

-- ---- folding
module _ {W N : Type 0} (P : AbstractCell W N → Type 0) where
  pub each_past : (n : ℕ) (es : List (ℕ × AbstractCell W N)) → Each (λ e. P e.1) es → Each (λ e. P e.1) (drop n es)
  each_past zero es g = g
  each_past (suc n) [] g = tt
  each_past (suc n) (e ∷ es) g = each_past n es g.1

  pub each_first : (n : ℕ) (es : List (ℕ × AbstractCell W N)) → Each (λ e. P e.1) es → Each (λ e. P e.1) (take n es)
  each_first zero es g = tt
  each_first (suc n) [] g = tt
  each_first (suc n) (e ∷ es) g = (g.0, each_first n es g.1)

module _ {W N C : Type 0} (B : Algebra W N C) (L : Laws W N C B) (c : C) (w : ℕ) (ok : IsWidth w) where
  pub rest_fits : (rest : AbstractCell W N) (es : List (ℕ × AbstractCell W N)) → CellFits B c w rest → Each (λ e. CellFits B c w e.1) es → CellFits B c w (rest_with B c w rest es)
  rest_fits rest [] h g = h
  rest_fits rest (e ∷ es) h g = cell_join_fits B L c w ok (rest_with B c w rest es) e.1 (rest_fits rest es h g.1) g.0

  pub rest_over : (rest : AbstractCell W N) (es : List (ℕ × AbstractCell W N)) → IsTrue B.joins → CellFits B c w rest → Each (λ e. CellFits B c w e.1) es → IsTrue (absorbs_cell B c w (rest_with B c w rest es) rest)
  rest_over rest [] j h g = cell_itself B L c w ok rest h
  rest_over rest (e ∷ es) j h g =
      cell_on B L c w ok (rest_with B c w rest (e ∷ es)) (rest_with B c w rest es) rest (rest_fits rest (e ∷ es) h g) (rest_fits rest es h g.1) h
      (cell_join_left B L c w ok (rest_with B c w rest es) e.1 j (rest_fits rest es h g.1) g.0) (rest_over rest es j h g.1)

  pub rest_over_each : (rest : AbstractCell W N) (es : List (ℕ × AbstractCell W N)) (k : ℕ) → IsTrue B.joins → CellFits B c w rest → Each (λ e. CellFits B c w e.1) es
      → IsTrue (absorbs_cell B c w (rest_with B c w rest es) (cell_in rest es k))
  rest_over_each rest [] k j h g = cell_itself B L c w ok rest h
  rest_over_each rest (e ∷ es) k j h g =
      at_choice (λ t. IsTrue (absorbs_cell B c w (rest_with B c w rest (e ∷ es)) t)) (e.0 == k) e.1 (cell_in rest es k)
      (λ d. cell_join_right B L c w ok (rest_with B c w rest es) e.1 j (rest_fits rest es h g.1) g.0)
      (λ d. cell_on B L c w ok (rest_with B c w rest (e ∷ es)) (rest_with B c w rest es) (cell_in rest es k) (rest_fits rest (e ∷ es) h g) (rest_fits rest es h g.1) (each_cell (CellFits B c w) rest es k h g.1)
      (cell_join_left B L c w ok (rest_with B c w rest es) e.1 j (rest_fits rest es h g.1) g.0) (rest_over_each rest es k j h g.1))

  -- what is kept, over the rest that took the others in, absorbs at each key
  pub kept_over : (n : ℕ) (rest : AbstractCell W N) (es : List (ℕ × AbstractCell W N)) (k : ℕ) → IsTrue B.joins → CellFits B c w rest → Each (λ e. CellFits B c w e.1) es
      → IsTrue (absorbs_cell B c w (cell_in (rest_with B c w rest (drop n es)) (take n es) k) (cell_in rest es k))
  kept_over zero rest es k j h g = rest_over_each rest es k j h g
  kept_over (suc n) rest [] k j h g = cell_itself B L c w ok rest h
  kept_over (suc n) rest (e ∷ es) k j h g = place (e.0 == k) (kept_over n rest es k j h g.1)
    where
      place : (b : Bool) → IsTrue (absorbs_cell B c w (cell_in (rest_with B c w rest (drop n es)) (take n es) k) (cell_in rest es k))
          → IsTrue (absorbs_cell B c w (cond b e.1 (cell_in (rest_with B c w rest (drop n es)) (take n es) k)) (cond b e.1 (cell_in rest es k)))
      place true i = cell_itself B L c w ok e.1 g.0
      place false i = i

module _ {W N C : Type 0} (B : Algebra W N C) (L : Laws W N C B) (c : C) (cap : ℕ) (m : Map W N) (ok : IsWidth m.width) (fit : EachCell (CellFits B c m.width) m) where
  pub folded_over : (k : ℕ) → IsTrue (absorbs_cell B c m.width (cell (folded B c cap m) k) (cell m k))
  folded_over k = by_joins B.joins (λ e. e)
    where
      by_joins : (b : Bool) → (IsTrue b → IsTrue B.joins)
          → IsTrue (absorbs_cell B c m.width (cell_in (cond b (rest_with B c m.width m.rest (drop cap m.cells)) m.rest) (cond b (take cap m.cells) m.cells) k) (cell m k))
      by_joins true j = kept_over B L c m.width ok cap m.rest m.cells k (j refl) fit.0 fit.1
      by_joins false j = cell_itself B L c m.width ok (cell m k) (each_cell (CellFits B c m.width) m.rest m.cells k fit.0 fit.1)

  pub folded_over_rest : IsTrue (absorbs_cell B c m.width (folded B c cap m).rest m.rest)
  folded_over_rest = by_joins B.joins (λ e. e)
    where
      by_joins : (b : Bool) → (IsTrue b → IsTrue B.joins) → IsTrue (absorbs_cell B c m.width (cond b (rest_with B c m.width m.rest (drop cap m.cells)) m.rest) m.rest)
      by_joins true j = rest_over B L c m.width ok m.rest (drop cap m.cells) (j refl) fit.0 (each_past (CellFits B c m.width) cap m.cells fit.1)
      by_joins false j = cell_itself B L c m.width ok m.rest fit.0

-- what a join keeps holds of a folded map
module _ {W N C : Type 0} (B : Algebra W N C) (c : C) (cap : ℕ) (m : Map W N) (P : AbstractCell W N → Type 0) (closed : (x y : AbstractCell W N) → P x → P y → P (join_cells B c m.width x y)) where
  rest_with_each : (es : List (ℕ × AbstractCell W N)) → P m.rest → Each (λ e. P e.1) es → P (rest_with B c m.width m.rest es)
  rest_with_each [] h g = h
  rest_with_each (e ∷ es) h g = closed (rest_with B c m.width m.rest es) e.1 (rest_with_each es h g.1) g.0

  pub folded_each : EachCell P m → EachCell P (folded B c cap m)
  folded_each h = by_joins B.joins
    where
      by_joins : (b : Bool) → P (cond b (rest_with B c m.width m.rest (drop cap m.cells)) m.rest) × Each (λ e. P e.1) (cond b (take cap m.cells) m.cells)
      by_joins true = (rest_with_each (drop cap m.cells) h.0 (each_past P cap m.cells h.1), each_first P cap m.cells h.1)
      by_joins false = h

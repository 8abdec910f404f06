-- Ranks of maps.
use Rattle.std.proofs.Common.{◌≡◌, ℕ, ◌+◌, ◌*◌, ◌<◌, ◌≤◌, Bool, true, false, List, [], ◌∷◌, length, refl, subst, arith, IsTrue, ◌⊎◌, inl, inr}
use Rattle.std.specs.List.{list_all, sum_by}
use Rattle.std.proofs.Math.Nat.{mul-le-mul_right}
use Rattle.std.proofs.lemmas.List.Sums.{sum_by-cons}
use Rattle.word_operations.specs.Width.{IsWidth}
use Rattle.base_trait.specs.Algebra.{Algebra}
use Rattle.base_trait.specs.Laws.{Laws}
use Rattle.base_trait.specs.Lists.{IsAmong, Each}
use Rattle.base_trait.specs.declared.uses.Stamp.{Stamp}
use Rattle.base_trait.proofs.Tests.{not_both}
use Rattle.abstract_map_laws.specs.declared.cell.AbstractCell.{AbstractCell}
use Rattle.abstract_map_laws.specs.Cells.{CellFits, ListsOnly, widen_cells, absorbs_cell, rank_cell, joined}
use Rattle.abstract_map_laws.specs.Keys.{either_key}
use Rattle.abstract_map_laws.specs.Maps.{Map, keys, cell, cells_at, EachCell}
use Rattle.abstract_map_laws.specs.Calls.{widen_of, news, absorbs_of, rank_of}
use Rattle.abstract_map_laws.specs.Laws.{WidenFalls, RankHeight}
use Rattle.abstract_map_laws.proofs.CellLaws.{cell_on, cell_no_more, cell_falls, cell_height, cell_join_lists, joined_first}
use Rattle.abstract_map_laws.proofs.KeyLists.{sort_key}
use Rattle.abstract_map_laws.proofs.Places.{each_cell, cell_past, cells_again}
use Rattle.abstract_map_laws.proofs.Reading.{joined_each}
use Rattle.abstract_map_laws.proofs.Joining.{fit_at}
use Rattle.abstract_map_laws.proofs.Widening.{old_fits, new_fits, news_fit, met_fits, met_over, news_each}

module _ {W N : Type 0} (r : AbstractCell W N → ℕ) (f g : ℕ → AbstractCell W N) where
  sum_no_more : (ks : List ℕ) → ((k : ℕ) → r (f k) ≤ r (g k)) → sum_by (λ e. r e.1) (cells_at ks f) ≤ sum_by (λ e. r e.1) (cells_at ks g)
  sum_no_more [] h = omega arith
  sum_no_more (k ∷ ks) h = let left = sum_by-cons (λ e. r e.1) (k, f k) (cells_at ks f) in let right = sum_by-cons (λ e. r e.1) (k, g k) (cells_at ks g) in let here = h k in let later = sum_no_more ks h in omega (arith, here, later, left, right)

  sum_falls : (ks : List ℕ) (k : ℕ) → ((k : ℕ) → r (f k) ≤ r (g k)) → IsAmong k ks → r (f k) < r (g k) → sum_by (λ e. r e.1) (cells_at ks f) < sum_by (λ e. r e.1) (cells_at ks g)
  sum_falls [] k h a l = absurd a
  sum_falls (j ∷ ks) k h (inl e) l = let here : r (f j) < r (g j) = subst (λ t. r (f t) < r (g t)) e l in let later = sum_no_more ks h in let left = sum_by-cons (λ e. r e.1) (j, f j) (cells_at ks f) in let right = sum_by-cons (λ e. r e.1) (j, g j) (cells_at ks g) in omega (arith, here, later, left, right)
  sum_falls (j ∷ ks) k h (inr a) l = let here = h j in let later = sum_falls ks k h a l in let left = sum_by-cons (λ e. r e.1) (j, f j) (cells_at ks f) in let right = sum_by-cons (λ e. r e.1) (j, g j) (cells_at ks g) in omega (arith, here, later, left, right)

-- where not all pass, one does not
some_fails : (test : ℕ → Bool) (ks : List ℕ) → list_all test ks ≡ false → (k : ℕ) × IsAmong k ks × (test k ≡ false)
some_fails test [] h = cc
some_fails test (k ∷ ks) h = sorted (not_both (test k) (list_all test ks) h) (λ e. some_fails test ks e)
  where
    sorted : (test k ≡ false) ⊎ (list_all test ks ≡ false) → (list_all test ks ≡ false → (j : ℕ) × IsAmong j ks × (test j ≡ false)) → (j : ℕ) × IsAmong j (k ∷ ks) × (test j ≡ false)
    sorted (inl e) s = (k, inl refl, e)
    sorted (inr e) s = let t = s e in (t.0, inr t.1, t.2)

backwards : (a b : Bool) → (IsTrue a → IsTrue b) → b ≡ false → a ≡ false
backwards true b h e = let t = h refl in cc
backwards false b h e = refl

module _ {W N C : Type 0} (B : Algebra W N C) (L : Laws W N C B) where
  module _ (c : C) (stamps : List Stamp) (old new : Map W N) (ok : IsWidth old.width) (fo : EachCell (CellFits B c old.width) old) (fn : EachCell (CellFits B c old.width) new)
      (so : EachCell (ListsOnly B stamps) old) (sn : EachCell (ListsOnly B stamps) new) (j : IsTrue B.joins) (again : cells_at (keys old) (cell old) ≡ old.cells) where
    met_lists : ListsOnly B stamps (joined B c old.width new.rest (news old new))
    met_lists = joined_each B c old.width (ListsOnly B stamps) (cell_join_lists B L c old.width stamps) new.rest (news old new) sn.0 (news_each (ListsOnly B stamps) old new sn)

    each_no_more : (k : ℕ) → rank_cell B c old.width stamps (widen_cells B c old.width (cell old k) (cell new k)) ≤ rank_cell B c old.width stamps (cell old k)
    each_no_more k = cell_no_more B L c old.width ok stamps (cell old k) (cell new k) j (old_fits B L c old new ok fo fn k) (new_fits B L c old new ok fo fn k)
        (each_cell (ListsOnly B stamps) old.rest old.cells k so.0 so.1) (each_cell (ListsOnly B stamps) new.rest new.cells k sn.0 sn.1)

    rest_no_more : rank_cell B c old.width stamps (widen_of B c old new).rest ≤ rank_cell B c old.width stamps old.rest
    rest_no_more = cell_no_more B L c old.width ok stamps old.rest (joined B c old.width new.rest (news old new)) j fo.0 (met_fits B L c old new ok fo fn) so.0 met_lists

    rest_falls : absorbs_cell B c old.width old.rest (joined B c old.width new.rest (news old new)) ≡ false → rank_cell B c old.width stamps (widen_of B c old new).rest < rank_cell B c old.width stamps old.rest
    rest_falls e = cell_falls B L c old.width ok stamps old.rest (joined B c old.width new.rest (news old new)) j fo.0 (met_fits B L c old new ok fo fn) so.0 met_lists e

    -- the rest's or a cell's fall is the map's
    by_rest : rank_cell B c old.width stamps (widen_of B c old new).rest < rank_cell B c old.width stamps old.rest → rank_of B c stamps (widen_of B c old new) < rank_of B c stamps old
    by_rest l =
        let later = subst (λ es. sum_by (λ e. rank_cell B c old.width stamps e.1) (cells_at (keys old) (λ k. widen_cells B c old.width (cell old k) (cell new k))) ≤ sum_by (λ e. rank_cell B c old.width stamps e.1) es) again
        (sum_no_more (rank_cell B c old.width stamps) (λ k. widen_cells B c old.width (cell old k) (cell new k)) (cell old) (keys old) each_no_more) in
        omega (arith, l, later)

    by_cell : (k : ℕ) → IsAmong k (keys old) → absorbs_cell B c old.width (cell old k) (cell new k) ≡ false → rank_of B c stamps (widen_of B c old new) < rank_of B c stamps old
    by_cell k a e =
        let falls = cell_falls B L c old.width ok stamps (cell old k) (cell new k) j (old_fits B L c old new ok fo fn k) (new_fits B L c old new ok fo fn k)
        (each_cell (ListsOnly B stamps) old.rest old.cells k so.0 so.1) (each_cell (ListsOnly B stamps) new.rest new.cells k sn.0 sn.1) e in
        let later = subst (λ es. sum_by (λ e. rank_cell B c old.width stamps e.1) (cells_at (keys old) (λ k. widen_cells B c old.width (cell old k) (cell new k))) < sum_by (λ e. rank_cell B c old.width stamps e.1) es) again
        (sum_falls (rank_cell B c old.width stamps) (λ k. widen_cells B c old.width (cell old k) (cell new k)) (cell old) (keys old) k each_no_more a falls) in
        let first = rest_no_more in
        omega (arith, first, later)

    -- where the old rest absorbs what it is widened with, it absorbs what that absorbs
    onwards : (z : AbstractCell W N) → CellFits B c old.width z → IsTrue (absorbs_cell B c old.width (joined B c old.width new.rest (news old new)) z) → absorbs_cell B c old.width old.rest z ≡ false
        → absorbs_cell B c old.width old.rest (joined B c old.width new.rest (news old new)) ≡ false
    onwards z fz a e = backwards (absorbs_cell B c old.width old.rest (joined B c old.width new.rest (news old new))) (absorbs_cell B c old.width old.rest z)
        (λ h. cell_on B L c old.width ok old.rest (joined B c old.width new.rest (news old new)) z fo.0 (met_fits B L c old new ok fo fn) fz h a) e

    pub falls : absorbs_of B c old new ≡ false → rank_of B c stamps (widen_of B c old new) < rank_of B c stamps old
    falls h = sorted (not_both (list_all (λ k. absorbs_cell B c old.width (cell old k) (cell new k)) (either_key (keys old) (keys new))) (absorbs_cell B c old.width old.rest new.rest) h)
      where
        at_key : (k : ℕ) → absorbs_cell B c old.width (cell old k) (cell new k) ≡ false → IsAmong k (keys old) ⊎ (IsAmong k (keys old) → ⊥) → rank_of B c stamps (widen_of B c old new) < rank_of B c stamps old
        at_key k e (inl a) = by_cell k a e
        at_key k e (inr n) = by_rest (rest_falls (onwards (cell new k) (new_fits B L c old new ok fo fn k) (met_over B L c old new ok fo fn j k n)
            (subst (λ z. absorbs_cell B c old.width z (cell new k) ≡ false) (cell_past old.rest old.cells k n) e)))

        sorted : (list_all (λ k. absorbs_cell B c old.width (cell old k) (cell new k)) (either_key (keys old) (keys new)) ≡ false) ⊎ (absorbs_cell B c old.width old.rest new.rest ≡ false)
            → rank_of B c stamps (widen_of B c old new) < rank_of B c stamps old
        sorted (inl e) = let t = some_fails (λ k. absorbs_cell B c old.width (cell old k) (cell new k)) (either_key (keys old) (keys new)) e in at_key t.0 t.2 (sort_key t.0 (keys old))
        sorted (inr e) = by_rest (rest_falls (onwards new.rest fn.0 (joined_first B L c old.width ok new.rest (news old new) j fn.0 (news_fit B L c old new ok fo fn)) e))

  pub widen_falls : WidenFalls B
  widen_falls c cap stamps old new j fo fn e so sn h = falls c stamps old new fo.width fo.cells (fit_at B c new old.width e fn.cells) so sn j (cells_again 0 old.rest old.cells fo.order) h

  -- ---- height
  sum_height : (c : C) (w : ℕ) (ok : IsWidth w) (stamps : List Stamp) (es : List (ℕ × AbstractCell W N)) → Each (λ e. CellFits B c w e.1) es
      → sum_by (λ e. rank_cell B c w stamps e.1) es ≤ length es * (B.words.height w + B.notes.height (length stamps))
  sum_height c w ok stamps [] h = omega arith
  sum_height c w ok stamps (e ∷ es) h = let here = cell_height B L c w ok stamps e.1 h.0 in let later = sum_height c w ok stamps es h.1 in let more = sum_by-cons (λ e. rank_cell B c w stamps e.1) e es in omega (arith, here, later, more)

  pub rank_height : RankHeight B
  rank_height c cap stamps m fit =
      let here = cell_height B L c m.width fit.width stamps m.rest fit.cells.0 in
      let later = sum_height c m.width fit.width stamps m.cells fit.cells.1 in
      let few = mul-le-mul_right (B.words.height m.width + B.notes.height (length stamps)) fit.few in
      omega (arith, here, later, few)

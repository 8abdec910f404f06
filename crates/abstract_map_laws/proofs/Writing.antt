-- What is written.
use Rattle.std.proofs.Common.{◌≡◌, ℕ, Bool, true, false, List, sym, subst, cond, ◌⊎◌, inl, inr}
use Rattle.std.specs.Prelude.{◌==◌}
use Rattle.base_trait.specs.Algebra.{Algebra}
use Rattle.base_trait.specs.Laws.{Laws}
use Rattle.base_trait.specs.Lists.{IsAmong}
use Rattle.base_trait.proofs.Lists.{number_told, each_at}
use Rattle.base_trait.proofs.Tests.{at_choice}
use Rattle.abstract_map_laws.specs.declared.cell.AbstractCell.{AbstractCell}
use Rattle.abstract_map_laws.specs.Cells.{Held, CellDescribes, CellFits, ListsOnly, join_cells}
use Rattle.abstract_map_laws.specs.Keys.{Keys, one, some, has_key, with_key}
use Rattle.abstract_map_laws.specs.Maps.{Map, keys, cell, EachCell, Describes}
use Rattle.abstract_map_laws.specs.Calls.{written, update_of}
use Rattle.abstract_map_laws.specs.Laws.{UpdateDescribes, UpdateLists}
use Rattle.abstract_map_laws.proofs.CellLaws.{cell_describes, cell_join_fits, cell_join_left, cell_join_right, cell_join_lists}
use Rattle.abstract_map_laws.proofs.KeyLists.{with_itself, with_keeps, has_to}
use Rattle.abstract_map_laws.proofs.Places.{at_cell, cell_past, each_cell, each_made}
use Rattle.abstract_map_laws.proofs.Absorbing.{folded_over, folded_each}

pub written_each : {W N : Type 0} (P : AbstractCell W N → Type 0) (m : Map W N) (k : ℕ) (x : AbstractCell W N) → EachCell P m → P x → EachCell P (written m k x)
written_each P m k x h g = (h.0, each_made P (with_key k (keys m)) (λ j. cond (j == k) x (cell m j)) (λ j a. at_choice P (j == k) x (cell m j) (λ d. g) (λ d. each_cell P m.rest m.cells j h.0 h.1)))

-- what a join keeps holds of the map that was written to
pub update_each : {W N C : Type 0} (B : Algebra W N C) (c : C) (cap : ℕ) (m : Map W N) (P : AbstractCell W N → Type 0) (closed : (x y : AbstractCell W N) → P x → P y → P (join_cells B c m.width x y)) (ks : Keys) (x : AbstractCell W N)
    → EachCell P m → P x → EachCell P (update_of B c cap m ks x)
update_each B c cap m P closed (one k) x h g = folded_each B c cap (written m k x) P closed (written_each P m k x h g)
update_each B c cap m P closed (some ks all) x h g = (
  at_choice P all m.rest (join_cells B c m.width m.rest x) (λ d. h.0) (λ d. closed m.rest x h.0 g),
  each_made P (keys m) (λ j. cond (has_key ks j) (join_cells B c m.width (cell m j) x) (cell m j))
      (λ j a. at_choice P (has_key ks j) (join_cells B c m.width (cell m j) x) (cell m j) (λ d. closed (cell m j) x (each_cell P m.rest m.cells j h.0 h.1) g) (λ d. each_cell P m.rest m.cells j h.0 h.1)),
)

module _ {W N C : Type 0} (B : Algebra W N C) (L : Laws W N C B) where
  pub update_lists : UpdateLists B
  update_lists c cap stamps m ks x h g = update_each B c cap m (ListsOnly B stamps) (cell_join_lists B L c m.width stamps) ks x h g

  written_describes : (valuation : List ℕ) (f : ℕ → Held) (m : Map W N) (k : ℕ) (h : Held) (x : AbstractCell W N) → Describes B valuation f m → CellDescribes B valuation m.width h x
      → Describes B valuation (λ j. cond (j == k) h (f j)) (written m k x)
  written_describes valuation f m k h x d g i =
      at_cell (CellDescribes B valuation m.width (cond (i == k) h (f i))) m.rest (with_key k (keys m)) (λ j. cond (j == k) x (cell m j)) i (λ a. both (i == k)) apart
    where
      both : (b : Bool) → CellDescribes B valuation m.width (cond b h (f i)) (cond b x (cell m i))
      both true = g
      both false = d i

      apart : (IsAmong i (with_key k (keys m)) → ⊥) → CellDescribes B valuation m.width (cond (i == k) h (f i)) m.rest
      apart n = at_choice (λ t. CellDescribes B valuation m.width t m.rest) (i == k) h (f i)
          (λ e. absurd (n (subst (λ t. IsAmong t (with_key k (keys m))) (sym (number_told i k e)) (with_itself k (keys m)))))
          (λ e. subst (λ t. CellDescribes B valuation m.width (f i) t) (cell_past m.rest m.cells i (λ a. n (with_keeps i k (keys m) a))) (d i))

  pub update_describes : UpdateDescribes B
  update_describes c cap valuation f m (one j) k h x fit may listed fx d e g i =
      subst (λ t. CellDescribes B valuation m.width (cond (i == t) h (f i)) (cell (update_of B c cap m (one j) x) i)) (sym e)
      (cell_describes B L c m.width fit.width valuation (cond (i == j) h (f i)) (cell (update_of B c cap m (one j) x) i) (cell (written m j x) i)
      (each_cell (CellFits B c m.width) (update_of B c cap m (one j) x).rest (update_of B c cap m (one j) x).cells i after.0 after.1)
      (each_cell (CellFits B c m.width) m.rest (written m j x).cells i before.0 before.1)
      (folded_over B L c cap (written m j x) fit.width before i) (written_describes valuation f m j h x d g i))
    where
      before : EachCell (CellFits B c m.width) (written m j x)
      before = written_each (CellFits B c m.width) m j x fit.cells fx

      after : EachCell (CellFits B c m.width) (update_of B c cap m (one j) x)
      after = update_each B c cap m (CellFits B c m.width) (cell_join_fits B L c m.width fit.width) (one j) x fit.cells fx
  update_describes c cap valuation f m (some ks all) k h x fit may listed fx d e g i =
      at_cell (CellDescribes B valuation m.width (cond (i == k) h (f i))) (cond all m.rest (join_cells B c m.width m.rest x)) (keys m) (λ j. cond (has_key ks j) (join_cells B c m.width (cell m j) x) (cell m j)) i at_listed at_rest
    where
      old : (y : AbstractCell W N) → CellFits B c m.width y → CellDescribes B valuation m.width (f i) y → CellDescribes B valuation m.width (f i) (join_cells B c m.width y x)
      old y fy t = cell_describes B L c m.width fit.width valuation (f i) (join_cells B c m.width y x) y (cell_join_fits B L c m.width fit.width y x fy fx) fy (cell_join_left B L c m.width fit.width y x may fy fx) t

      new : (y : AbstractCell W N) → CellFits B c m.width y → CellDescribes B valuation m.width h (join_cells B c m.width y x)
      new y fy = cell_describes B L c m.width fit.width valuation h (join_cells B c m.width y x) x (cell_join_fits B L c m.width fit.width y x fy fx) fx (cell_join_right B L c m.width fit.width y x may fy fx) g

      here : CellFits B c m.width (cell m i)
      here = each_cell (CellFits B c m.width) m.rest m.cells i fit.cells.0 fit.cells.1

      at_listed : IsAmong i (keys m) → CellDescribes B valuation m.width (cond (i == k) h (f i)) (cond (has_key ks i) (join_cells B c m.width (cell m i) x) (cell m i))
      at_listed a = at_choice (λ t. CellDescribes B valuation m.width t (cond (has_key ks i) (join_cells B c m.width (cell m i) x) (cell m i))) (i == k) h (f i)
          (λ s. at_choice (λ t. CellDescribes B valuation m.width h t) (has_key ks i) (join_cells B c m.width (cell m i) x) (cell m i) (λ t. new (cell m i) here) (λ t. absurd (missed (number_told i k s) t e)))
          (λ s. at_choice (λ t. CellDescribes B valuation m.width (f i) t) (has_key ks i) (join_cells B c m.width (cell m i) x) (cell m i) (λ t. old (cell m i) here (d i)) (λ t. d i))
        where
          missed : i ≡ k → has_key ks i ≡ false → IsAmong k ks ⊎ ((all ≡ false) × (IsAmong k (keys m) → ⊥)) → ⊥
          missed s t (inl b) = let u = has_to i ks (subst (λ z. IsAmong z ks) (sym s) b) in cc
          missed s t (inr n) = n.1 (subst (λ z. IsAmong z (keys m)) s a)

      at_rest : (IsAmong i (keys m) → ⊥) → CellDescribes B valuation m.width (cond (i == k) h (f i)) (cond all m.rest (join_cells B c m.width m.rest x))
      at_rest n = at_choice (λ t. CellDescribes B valuation m.width t (cond all m.rest (join_cells B c m.width m.rest x))) (i == k) h (f i)
          (λ s. at_choice (λ t. CellDescribes B valuation m.width h t) all m.rest (join_cells B c m.width m.rest x) (λ t. absurd (missed (number_told i k s) t e)) (λ t. new m.rest fit.cells.0))
          (λ s. at_choice (λ t. CellDescribes B valuation m.width (f i) t) all m.rest (join_cells B c m.width m.rest x) (λ t. rest) (λ t. old m.rest fit.cells.0 rest))
        where
          rest : CellDescribes B valuation m.width (f i) m.rest
          rest = subst (λ t. CellDescribes B valuation m.width (f i) t) (cell_past m.rest m.cells i n) (d i)

          missed : i ≡ k → all ≡ true → IsAmong k ks ⊎ ((all ≡ false) × (IsAmong k (keys m) → ⊥)) → ⊥
          missed s t (inl b) = n (subst (λ z. IsAmong z (keys m)) (sym s) (each_at (λ z. IsAmong z (keys m)) ks k listed b))
          missed s t (inr o) = let u = o.0 in cc

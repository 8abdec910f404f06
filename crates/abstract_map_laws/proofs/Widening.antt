-- Widening.
use Rattle.std.proofs.Common.{◌≡◌, ℕ, Bool, true, false, List, [], ◌∷◌, map, refl, sym, ap, ◌∙◌, subst, IsTrue, ◌⊎◌, inl, inr}
use Rattle.std.specs.Prelude.{not}
use Rattle.std.specs.List.{filter}
use Rattle.word_operations.specs.Width.{IsWidth}
use Rattle.base_trait.specs.Algebra.{Algebra}
use Rattle.base_trait.specs.Laws.{Laws}
use Rattle.base_trait.specs.Lists.{IsAmong, Each}
use Rattle.base_trait.proofs.Lists.{among_map}
use Rattle.base_trait.proofs.Tests.{at_choice}
use Rattle.abstract_map_laws.specs.declared.cell.AbstractCell.{AbstractCell}
use Rattle.abstract_map_laws.specs.Cells.{Held, CellDescribes, CellFits, ListsOnly, join_cells, widen_cells, absorbs_cell, joined}
use Rattle.abstract_map_laws.specs.Keys.{has_key}
use Rattle.abstract_map_laws.specs.Maps.{Map, keys, cell, cells_at, EachCell, Describes}
use Rattle.abstract_map_laws.specs.Calls.{widen_of, news, absorbs_of}
use Rattle.abstract_map_laws.specs.Laws.{WidenAbsorbs, WidenDescribes, WidenKeeps, WidenLists}
use Rattle.abstract_map_laws.proofs.CellLaws.{cell_on, cell_describes, cell_widen_fits, cell_widen_old, cell_widen_new, cell_keeps, cell_widen_lists, cell_join_lists, joined_fits, joined_first, joined_item, joined_least}
use Rattle.abstract_map_laws.proofs.KeyLists.{has_from, has_not, sort_key}
use Rattle.abstract_map_laws.proofs.Places.{at_cell, cell_past, each_cell, each_made, made_same, cells_again}
use Rattle.abstract_map_laws.proofs.Absorbing.{absorbed_rest, absorbed_at, absorbs_from}
use Rattle.abstract_map_laws.proofs.Reading.{joined_each}
use Rattle.abstract_map_laws.proofs.Joining.{fit_at}

pub among_filter : (test : ℕ → Bool) (k : ℕ) (ks : List ℕ) → IsTrue (test k) → IsAmong k ks → IsAmong k (filter test ks)
among_filter test k [] t a = absurd a
among_filter test k (j ∷ js) t a = place a (λ b. among_filter test k js t b)
  where
    place : IsAmong k (j ∷ js) → (IsAmong k js → IsAmong k (filter test js)) → IsAmong k (filter test (j ∷ js))
    place i f = at_choice (λ l. IsAmong k l) (test j) (j ∷ filter test js) (filter test js) (λ e. kept i) (λ e. dropped e i)
      where
        kept : IsAmong k (j ∷ js) → IsAmong k (j ∷ filter test js)
        kept (inl d) = inl d
        kept (inr b) = inr (f b)

        dropped : test j ≡ false → IsAmong k (j ∷ js) → IsAmong k (filter test js)
        dropped e (inl d) = let u = subst (λ z. IsTrue (test z)) d t in cc
        dropped e (inr b) = f b

each_filter : {X : Type 0} (P : X → Type 0) (f : ℕ → X) (test : ℕ → Bool) (ks : List ℕ) → ((k : ℕ) → IsTrue (test k) → P (f k)) → Each P (map f (filter test ks))
each_filter P f test [] h = tt
each_filter P f test (k ∷ ks) h = at_choice (λ l. Each P (map f l)) (test k) (k ∷ filter test ks) (filter test ks) (λ e. (h k e, each_filter P f test ks h)) (λ e. each_filter P f test ks h)

not_told : (b : Bool) → IsTrue (not b) → b ≡ false
not_told true h = cc
not_told false h = refl

-- what holds of each cell of the new map holds of those that it alone lists
pub news_each : {W N : Type 0} (P : AbstractCell W N → Type 0) (old new : Map W N) → EachCell P new → Each P (news old new)
news_each P old new h = each_filter P (cell new) (λ k. not (has_key (keys old) k)) (keys new) (λ k t. each_cell P new.rest new.cells k h.0 h.1)

-- a key that the new map alone lists
pub news_has : {W N : Type 0} (old new : Map W N) (k : ℕ) → (IsAmong k (keys old) → ⊥) → IsAmong k (keys new) → IsAmong (cell new k) (news old new)
news_has old new k n a = among_map (cell new) k (filter (λ k. not (has_key (keys old) k)) (keys new)) (among_filter (λ k. not (has_key (keys old) k)) k (keys new) (apart (has_key (keys old) k) (λ h. n (has_from k (keys old) h))) a)
  where
    apart : (b : Bool) → (IsTrue b → ⊥) → IsTrue (not b)
    apart true h = absurd (h refl)
    apart false h = refl

pub widen_each : {W N C : Type 0} (B : Algebra W N C) (c : C) (old new : Map W N) (P : AbstractCell W N → Type 0)
    → ((x y : AbstractCell W N) → P x → P y → P (join_cells B c old.width x y)) → ((x y : AbstractCell W N) → P x → P y → P (widen_cells B c old.width x y))
    → EachCell P old → EachCell P new → EachCell P (widen_of B c old new)
widen_each B c old new P joins widens h g = (
  widens old.rest (joined B c old.width new.rest (news old new)) h.0 (joined_each B c old.width P joins new.rest (news old new) g.0 (news_each P old new g)),
  each_made P (keys old) (λ k. widen_cells B c old.width (cell old k) (cell new k)) (λ k a. widens (cell old k) (cell new k) (each_cell P old.rest old.cells k h.0 h.1) (each_cell P new.rest new.cells k g.0 g.1)),
)

module _ {W N C : Type 0} (B : Algebra W N C) (L : Laws W N C B) where
  pub widen_lists : WidenLists B
  widen_lists c stamps old new h g = widen_each B c old new (ListsOnly B stamps) (cell_join_lists B L c old.width stamps) (cell_widen_lists B L c old.width stamps) h g

  module _ (c : C) (old new : Map W N) (ok : IsWidth old.width) (fo : EachCell (CellFits B c old.width) old) (fn : EachCell (CellFits B c old.width) new) where
    pub old_fits : (k : ℕ) → CellFits B c old.width (cell old k)
    old_fits k = each_cell (CellFits B c old.width) old.rest old.cells k fo.0 fo.1

    pub new_fits : (k : ℕ) → CellFits B c old.width (cell new k)
    new_fits k = each_cell (CellFits B c old.width) new.rest new.cells k fn.0 fn.1

    pub news_fit : Each (CellFits B c old.width) (news old new)
    news_fit = news_each (CellFits B c old.width) old new fn

    -- the rest of the new map and the cells that it alone lists
    pub met_fits : CellFits B c old.width (joined B c old.width new.rest (news old new))
    met_fits = joined_fits B L c old.width ok new.rest (news old new) fn.0 news_fit

    -- this absorbs the new cell at each key that the old map does not list
    pub met_over : IsTrue B.joins → (k : ℕ) → (IsAmong k (keys old) → ⊥) → IsTrue (absorbs_cell B c old.width (joined B c old.width new.rest (news old new)) (cell new k))
    met_over j k n = sorted (sort_key k (keys new))
      where
        sorted : IsAmong k (keys new) ⊎ (IsAmong k (keys new) → ⊥) → IsTrue (absorbs_cell B c old.width (joined B c old.width new.rest (news old new)) (cell new k))
        sorted (inl a) = joined_item B L c old.width ok new.rest (news old new) (cell new k) j fn.0 news_fit (news_has old new k n a)
        sorted (inr o) = subst (λ t. IsTrue (absorbs_cell B c old.width (joined B c old.width new.rest (news old new)) t)) (sym (cell_past new.rest new.cells k o)) (joined_first B L c old.width ok new.rest (news old new) j fn.0 news_fit)

    pub widened_fit : EachCell (CellFits B c old.width) (widen_of B c old new)
    widened_fit = (
      cell_widen_fits B L c old.width ok old.rest (joined B c old.width new.rest (news old new)) fo.0 met_fits,
      each_made (CellFits B c old.width) (keys old) (λ k. widen_cells B c old.width (cell old k) (cell new k)) (λ k a. cell_widen_fits B L c old.width ok (cell old k) (cell new k) (old_fits k) (new_fits k)),
    )

    widened_fits : (k : ℕ) → CellFits B c old.width (cell (widen_of B c old new) k)
    widened_fits k = each_cell (CellFits B c old.width) (widen_of B c old new).rest (widen_of B c old new).cells k widened_fit.0 widened_fit.1

    rest_over_old : IsTrue B.joins → IsTrue (absorbs_cell B c old.width (widen_of B c old new).rest old.rest)
    rest_over_old j = cell_widen_old B L c old.width ok old.rest (joined B c old.width new.rest (news old new)) j fo.0 met_fits

    rest_over_met : IsTrue B.joins → (z : AbstractCell W N) → CellFits B c old.width z → IsTrue (absorbs_cell B c old.width (joined B c old.width new.rest (news old new)) z) → IsTrue (absorbs_cell B c old.width (widen_of B c old new).rest z)
    rest_over_met j z fz a = cell_on B L c old.width ok (widen_of B c old new).rest (joined B c old.width new.rest (news old new)) z widened_fit.0 met_fits fz (cell_widen_new B L c old.width ok old.rest (joined B c old.width new.rest (news old new)) j fo.0 met_fits) a

    rest_over_new : IsTrue B.joins → IsTrue (absorbs_cell B c old.width (widen_of B c old new).rest new.rest)
    rest_over_new j = rest_over_met j new.rest fn.0 (joined_first B L c old.width ok new.rest (news old new) j fn.0 news_fit)

    pub widened_over_old : IsTrue B.joins → (k : ℕ) → IsTrue (absorbs_cell B c old.width (cell (widen_of B c old new) k) (cell old k))
    widened_over_old j k = at_cell (λ t. IsTrue (absorbs_cell B c old.width t (cell old k))) (widen_of B c old new).rest (keys old) (λ k. widen_cells B c old.width (cell old k) (cell new k)) k
        (λ a. cell_widen_old B L c old.width ok (cell old k) (cell new k) j (old_fits k) (new_fits k))
        (λ n. subst (λ t. IsTrue (absorbs_cell B c old.width (widen_of B c old new).rest t)) (sym (cell_past old.rest old.cells k n)) (rest_over_old j))

    pub widened_over_new : IsTrue B.joins → (k : ℕ) → IsTrue (absorbs_cell B c old.width (cell (widen_of B c old new) k) (cell new k))
    widened_over_new j k = at_cell (λ t. IsTrue (absorbs_cell B c old.width t (cell new k))) (widen_of B c old new).rest (keys old) (λ k. widen_cells B c old.width (cell old k) (cell new k)) k
        (λ a. cell_widen_new B L c old.width ok (cell old k) (cell new k) j (old_fits k) (new_fits k))
        (λ n. rest_over_met j (cell new k) (new_fits k) (met_over j k n))

    pub widened_absorbs : IsTrue B.joins → IsTrue (absorbs_of B c (widen_of B c old new) old) × IsTrue (absorbs_of B c (widen_of B c old new) new)
    widened_absorbs j = (absorbs_from B c (widen_of B c old new) old (λ k a. widened_over_old j k) (rest_over_old j), absorbs_from B c (widen_of B c old new) new (λ k a. widened_over_new j k) (rest_over_new j))

    pub widened_describes : (valuation : List ℕ) (f : ℕ → Held) → IsTrue B.joins → (k : ℕ) → CellDescribes B valuation old.width (f k) (cell old k) ⊎ CellDescribes B valuation old.width (f k) (cell new k)
        → CellDescribes B valuation old.width (f k) (cell (widen_of B c old new) k)
    widened_describes valuation f j k (inl d) = cell_describes B L c old.width ok valuation (f k) (cell (widen_of B c old new) k) (cell old k) (widened_fits k) (old_fits k) (widened_over_old j k) d
    widened_describes valuation f j k (inr d) = cell_describes B L c old.width ok valuation (f k) (cell (widen_of B c old new) k) (cell new k) (widened_fits k) (new_fits k) (widened_over_new j k) d

    -- where the old map absorbs the new one, its rest absorbs what it is widened with
    rest_over : IsTrue (absorbs_of B c old new) → IsTrue (absorbs_cell B c old.width old.rest (joined B c old.width new.rest (news old new)))
    rest_over h = joined_least B L c old.width ok new.rest (news old new) old.rest fo.0 fn.0 news_fit (absorbed_rest B c old new h)
        (each_filter (λ y. IsTrue (absorbs_cell B c old.width old.rest y)) (cell new) (λ k. not (has_key (keys old) k)) (keys new)
        (λ k t. subst (λ z. IsTrue (absorbs_cell B c old.width z (cell new k))) (cell_past old.rest old.cells k (has_not k (keys old) (not_told (has_key (keys old) k) t))) (absorbed_at B c old new k h)))

    pub widened_same : IsTrue B.joins → cells_at (keys old) (cell old) ≡ old.cells → IsTrue (absorbs_of B c old new) → widen_of B c old new ≡ old
    widened_same j again h =
        ap (λ r. record { width = old.width; rest = r; cells = cells_at (keys old) (λ k. widen_cells B c old.width (cell old k) (cell new k)) }) (cell_keeps B L c old.width ok old.rest (joined B c old.width new.rest (news old new)) j fo.0 met_fits (rest_over h))
        ∙ ap (λ es. record { width = old.width; rest = old.rest; cells = es })
        (made_same (keys old) (λ k. widen_cells B c old.width (cell old k) (cell new k)) (cell old) (λ k a. cell_keeps B L c old.width ok (cell old k) (cell new k) j (old_fits k) (new_fits k) (absorbed_at B c old new k h)) ∙ again)

  pub widen_absorbs : WidenAbsorbs B
  widen_absorbs c cap old new j fo fn e = widened_absorbs c old new fo.width fo.cells (fit_at B c new old.width e fn.cells) j

  pub widen_describes : WidenDescribes B
  widen_describes c cap valuation f old new j fo fn e d k = widened_describes c old new fo.width fo.cells (fit_at B c new old.width e fn.cells) valuation f j k (sorted d)
    where
      sorted : Describes B valuation f old ⊎ Describes B valuation f new → CellDescribes B valuation old.width (f k) (cell old k) ⊎ CellDescribes B valuation old.width (f k) (cell new k)
      sorted (inl h) = inl (h k)
      sorted (inr h) = inr (subst (λ w. CellDescribes B valuation w (f k) (cell new k)) (sym e) (h k))

  pub widen_keeps : WidenKeeps B
  widen_keeps c cap old new j fo fn e h = widened_same c old new fo.width fo.cells (fit_at B c new old.width e fn.cells) j (cells_again 0 old.rest old.cells fo.order) h

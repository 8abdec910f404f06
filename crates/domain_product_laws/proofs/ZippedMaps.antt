-- Maps put side by side.
use Rattle.std.proofs.Common.{◌≡◌, ℕ, ◌<◌, Bool, true, false, List, ◌++◌, map, take, refl, sym, ap, ◌∙◌, subst, cond, ◌⊎◌, inl, inr}
use Rattle.std.specs.Prelude.{◌^◌}
use Rattle.word_operations.specs.Width.{IsWidth}
use Rattle.base_trait.specs.Algebra.{Algebra}
use Rattle.base_trait.specs.Laws.{Laws}
use Rattle.base_trait.specs.Lists.{Each, IsAmong, IsAscending}
use Rattle.base_trait.specs.declared.uses.Stamp.{Stamp}
use Rattle.base_trait.proofs.Lists.{are_among_at, are_among_from, among_either, each_at, each_from}
use Rattle.base_product.specs.Instance.{paired_laws}
use Rattle.base_product.specs.Meaning.{paired}
use Rattle.abstract_map_laws.specs.declared.cell.AbstractCell.{AbstractCell}
use Rattle.abstract_map_laws.specs.Calls.{folded}
use Rattle.abstract_map_laws.specs.Cells.{CellDescribes, CellFits, Held, ListsOnly}
use Rattle.abstract_map_laws.specs.Keys.{either_key}
use Rattle.abstract_map_laws.specs.Laws.{HasRoom}
use Rattle.abstract_map_laws.specs.Maps.{Describes, EachCell, Fits, Map, cell, keys}
use Rattle.abstract_map_laws.proofs.Absorbing.{folded_each, folded_over}
use Rattle.abstract_map_laws.proofs.CellLaws.{cell_describes, cell_join_fits, cell_join_lists}
use Rattle.abstract_map_laws.proofs.Fitting.{folded_fits, each_zero, first_each}
use Rattle.abstract_map_laws.proofs.Joining.{fit_at}
use Rattle.abstract_map_laws.proofs.KeyLists.{either_ascends, either_left, either_only, either_right}
use Rattle.abstract_map_laws.proofs.Places.{at_cell, cell_past, each_cell, each_made, keys_of_cells}
use Rattle.domain_product_laws.specs.Calls.{zip_cells, zip_map, zipped}

module _ {V W M N : Type 0} (x : Map V M) (y : Map W N) where
  zipped_keys : keys (zipped x y) ≡ either_key (keys x) (keys y)
  zipped_keys = keys_of_cells (either_key (keys x) (keys y)) (λ k. zip_cells (cell x k) (cell y k))

  -- at each key, listed or not
  zipped_cell : (k : ℕ) → cell (zipped x y) k ≡ zip_cells (cell x k) (cell y k)
  zipped_cell k = at_cell (λ t. t ≡ zip_cells (cell x k) (cell y k)) (zip_cells x.rest y.rest) (either_key (keys x) (keys y)) (λ j. zip_cells (cell x j) (cell y j)) k
      (λ a. refl)
      (λ n. ap (λ t. zip_cells t y.rest) (sym (cell_past x.rest x.cells k (λ a. n (either_left k (keys x) (keys y) a))))
      ∙ ap (λ t. zip_cells (cell x k) t) (sym (cell_past y.rest y.cells k (λ a. n (either_right k (keys x) (keys y) a)))))

  -- what each key of either side has, each key has
  pub zipped_keys_each : (P : ℕ → Type 0) → Each P (keys x) → Each P (keys y) → Each P (keys (zipped x y))
  zipped_keys_each P h g = subst (Each P) (sym zipped_keys) (each_from P (either_key (keys x) (keys y)) (λ k a. sorted k (either_only k (keys x) (keys y) a)))
    where
      sorted : (k : ℕ) → IsAmong k (keys x) ⊎ IsAmong k (keys y) → P k
      sorted k (inl a) = each_at P (keys x) k h a
      sorted k (inr a) = each_at P (keys y) k g a

  zipped_order : IsAscending (keys y) → IsAscending (keys (zipped x y))
  zipped_order right = subst (λ ks. IsAscending ks) (sym zipped_keys) (either_ascends 0 (keys x) (keys y) (each_zero (keys x)) right)

  zipped_each : (P : AbstractCell V M → Type 0) (Q : AbstractCell W N → Type 0) (R : AbstractCell (V × W) (M × N) → Type 0) → ((a : AbstractCell V M) (b : AbstractCell W N) → P a → Q b → R (zip_cells a b))
      → EachCell P x → EachCell Q y → EachCell R (zipped x y)
  zipped_each P Q R both h g = (
    both x.rest y.rest h.0 g.0,
    each_made R (either_key (keys x) (keys y)) (λ k. zip_cells (cell x k) (cell y k)) (λ k a. both (cell x k) (cell y k) (each_cell P x.rest x.cells k h.0 h.1) (each_cell Q y.rest y.cells k g.0 g.1)),
  )

-- ---- folding
module _ {W N C : Type 0} (B : Algebra W N C) (c : C) (cap : ℕ) where
  folded_keys : (P : ℕ → Type 0) (m : Map W N) → Each P (keys m) → Each P (keys (folded B c cap m))
  folded_keys P m h = by_joins B.joins
    where
      by_joins : (b : Bool) → Each P (map (λ e. e.0) (cond b (take cap m.cells) m.cells))
      by_joins true = first_each P cap m.cells h
      by_joins false = h

  -- a folded map describes what the map does
  folded_describes : Laws W N C B → (valuation : List ℕ) (f : ℕ → Held) (m : Map W N) → IsWidth m.width → EachCell (CellFits B c m.width) m → Describes B valuation f m → Describes B valuation f (folded B c cap m)
  folded_describes L valuation f m ok fit d k =
      cell_describes B L c m.width ok valuation (f k) (cell (folded B c cap m) k) (cell m k)
      (each_cell (CellFits B c m.width) (folded B c cap m).rest (folded B c cap m).cells k folded_fit.0 folded_fit.1) (each_cell (CellFits B c m.width) m.rest m.cells k fit.0 fit.1)
      (folded_over B L c cap m ok fit k) (d k)
    where
      folded_fit : EachCell (CellFits B c m.width) (folded B c cap m)
      folded_fit = folded_each B c cap m (CellFits B c m.width) (cell_join_fits B L c m.width ok) fit

module _ {V W M N C D : Type 0} (A : Algebra V M C) (B : Algebra W N D) (a : Laws V M C A) (b : Laws W N D B) where
  both : Laws (V × W) (M × N) (C × D) (paired A B)
  both = paired_laws A B a b

  module _ (c : C × D) (cap : ℕ) (x : Map V M) (y : Map W N) where
    pub zip_keys : (P : ℕ → Type 0) → Each P (keys x) → Each P (keys y) → Each P (keys (zip_map A B c cap x y))
    zip_keys P h g = folded_keys (paired A B) c cap P (zipped x y) (zipped_keys_each x y P h g)

    pub zip_map_lists : (stamps : List Stamp) → EachCell (ListsOnly A stamps) x → EachCell (ListsOnly B stamps) y → EachCell (ListsOnly (paired A B) stamps) (zip_map A B c cap x y)
    zip_map_lists stamps h g = folded_each (paired A B) c cap (zipped x y) (ListsOnly (paired A B) stamps) (cell_join_lists (paired A B) both c x.width stamps)
        (zipped_each x y (ListsOnly A stamps) (ListsOnly B stamps) (ListsOnly (paired A B) stamps)
        (λ p q h g. are_among_from (A.notes.listed p.note ++ B.notes.listed q.note) stamps (λ s k. sorted p q h g s (among_either s (A.notes.listed p.note) (B.notes.listed q.note) k))) h g)
      where
        sorted : (p : AbstractCell V M) (q : AbstractCell W N) → ListsOnly A stamps p → ListsOnly B stamps q → (s : Stamp) → IsAmong s (A.notes.listed p.note) ⊎ IsAmong s (B.notes.listed q.note) → IsAmong s stamps
        sorted p q h g s (inl k) = are_among_at (A.notes.listed p.note) stamps s h k
        sorted p q h g s (inr k) = are_among_at (B.notes.listed q.note) stamps s g k

    module _ (fx : Fits A c.0 cap x) (fy : Fits B c.1 cap y) (e : x.width ≡ y.width) where
      cells_fit : EachCell (CellFits (paired A B) c x.width) (zipped x y)
      cells_fit = zipped_each x y (CellFits A c.0 x.width) (CellFits B c.1 x.width) (CellFits (paired A B) c x.width) (λ p q h g. (h, g)) fx.cells (fit_at B c.1 y x.width e fy.cells)

      pub zip_map_fits : HasRoom (paired A B) cap → Fits (paired A B) c cap (zip_map A B c cap x y)
      zip_map_fits room = folded_fits (paired A B) c cap (zipped x y) room fx.width
          (folded_each (paired A B) c cap (zipped x y) (CellFits (paired A B) c x.width) (cell_join_fits (paired A B) both c x.width fx.width) cells_fit)
          (zipped_order x y fy.order) (zipped_keys_each x y (λ k. k < 2 ^ 32) fx.bound fy.bound)

      -- where what the parts describe in their valuations they describe in a third
      pub zip_map_describes : (u v z : List ℕ) → ((w n : ℕ) (t : V) → A.words.describes u w n t → A.words.describes z w n t) → ((w n : ℕ) (t : W) → B.words.describes v w n t → B.words.describes z w n t)
          → (f : ℕ → Held) → Describes A u f x → Describes B v f y → Describes (paired A B) z f (zip_map A B c cap x y)
      zip_map_describes u v z left right f h g = folded_describes (paired A B) c cap both z f (zipped x y) fx.width cells_fit
          (λ k. subst (λ t. CellDescribes (paired A B) z x.width (f k) t) (sym (zipped_cell x y k))
          (let p = h k in let q = subst (λ w. CellDescribes B v w (f k) (cell y k)) (sym e) (g k) in
          ((left x.width (f k).number (cell x k).word p.0, right x.width (f k).number (cell y k).word q.0), (p.1, q.1))))

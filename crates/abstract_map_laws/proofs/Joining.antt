-- Absorption, and join.
use Rattle.std.proofs.Common.{◌≡◌, ℕ, ◌≤◌, Bool, true, false, List, [], ◌∷◌, length, take, drop, zero, suc, refl, sym, ap, ◌∙◌, subst, arith, IsTrue, cond, ◌⊎◌, inl, inr}
use Rattle.std.proofs.lemmas.List.{drop_all}
use Rattle.word_operations.specs.Width.{IsWidth}
use Rattle.base_trait.specs.Algebra.{Algebra}
use Rattle.base_trait.specs.Laws.{Laws}
use Rattle.abstract_map_laws.specs.declared.cell.AbstractCell.{AbstractCell}
use Rattle.abstract_map_laws.specs.Cells.{CellDescribes, CellFits, ListsOnly, join_cells, absorbs_cell}
use Rattle.abstract_map_laws.specs.Keys.{either_key}
use Rattle.abstract_map_laws.specs.Maps.{Map, keys, cell, cells_at, EachCell, Describes}
use Rattle.abstract_map_laws.specs.Calls.{folded, rest_with, merged, join_of, absorbs_of}
use Rattle.abstract_map_laws.specs.Laws.{AbsorbsItself, AbsorbsOn, AbsorbsDescribes, JoinAbsorbs, JoinDescribes, JoinLeast, JoinLists}
use Rattle.abstract_map_laws.proofs.CellLaws.{cell_itself, cell_on, cell_describes, cell_join_fits, cell_join_left, cell_join_right, cell_least, cell_join_lists}
use Rattle.abstract_map_laws.proofs.KeyLists.{either_left, either_right}
use Rattle.abstract_map_laws.proofs.Places.{at_cell, cell_past, each_cell, each_made}
use Rattle.abstract_map_laws.proofs.Absorbing.{absorbed_rest, absorbed_at, absorbs_from, folded_over, folded_over_rest, folded_each}

-- where there are at most n, all are taken
pub take_all : {A : Type 0} (n : ℕ) (xs : List A) → length xs ≤ n → take n xs ≡ xs
take_all zero [] h = refl
take_all zero (x ∷ xs) h = absurd (omega (arith, h))
take_all (suc n) [] h = refl
take_all (suc n) (x ∷ xs) h = ap (λ l. x ∷ l) (take_all n xs (omega (arith, h)))

pub length_made : {W N : Type 0} (ks : List ℕ) (f : ℕ → AbstractCell W N) → length (cells_at ks f) ≡ length ks
length_made [] f = refl
length_made (k ∷ ks) f = ap (λ n. suc n) (length_made ks f)

-- nothing is folded where there is room
folded_same : {W N C : Type 0} (B : Algebra W N C) (c : C) (cap : ℕ) (m : Map W N) → length m.cells ≤ cap → folded B c cap m ≡ m
folded_same B c cap m h = by_joins B.joins
  where
    by_joins : (b : Bool) → record { width = m.width; rest = cond b (rest_with B c m.width m.rest (drop cap m.cells)) m.rest; cells = cond b (take cap m.cells) m.cells } ≡ m
    by_joins true = ap (λ es. record { width = m.width; rest = rest_with B c m.width m.rest es; cells = take cap m.cells }) (drop_all cap m.cells h)
        ∙ ap (λ es. record { width = m.width; rest = m.rest; cells = es }) (take_all cap m.cells h)
    by_joins false = refl

pub merged_each : {W N C : Type 0} (B : Algebra W N C) (c : C) (m n : Map W N) (P : AbstractCell W N → Type 0) (closed : (x y : AbstractCell W N) → P x → P y → P (join_cells B c m.width x y))
    → EachCell P m → EachCell P n → EachCell P (merged B c m n)
merged_each B c m n P closed h g = (
  closed m.rest n.rest h.0 g.0,
  each_made P (either_key (keys m) (keys n)) (λ k. join_cells B c m.width (cell m k) (cell n k))
      (λ k a. closed (cell m k) (cell n k) (each_cell P m.rest m.cells k h.0 h.1) (each_cell P n.rest n.cells k g.0 g.1)),
)

pub join_each : {W N C : Type 0} (B : Algebra W N C) (c : C) (cap : ℕ) (m n : Map W N) (P : AbstractCell W N → Type 0) (closed : (x y : AbstractCell W N) → P x → P y → P (join_cells B c m.width x y))
    → EachCell P m → EachCell P n → EachCell P (join_of B c cap m n)
join_each B c cap m n P closed h g = folded_each B c cap (merged B c m n) P closed (merged_each B c m n P closed h g)

-- cells that fit a width fit the same width
pub fit_at : {W N C : Type 0} (B : Algebra W N C) (c : C) (m : Map W N) (w : ℕ) → w ≡ m.width → EachCell (CellFits B c m.width) m → EachCell (CellFits B c w) m
fit_at B c m w e h = subst (λ t. EachCell (CellFits B c t) m) (sym e) h

module _ {W N C : Type 0} (B : Algebra W N C) (L : Laws W N C B) where
  pub join_lists : JoinLists B
  join_lists c cap stamps m n h g = join_each B c cap m n (ListsOnly B stamps) (cell_join_lists B L c m.width stamps) h g

  pub absorbs_itself : AbsorbsItself B
  absorbs_itself c cap m fit = absorbs_from B c m m (λ k a. cell_itself B L c m.width fit.width (cell m k) (each_cell (CellFits B c m.width) m.rest m.cells k fit.cells.0 fit.cells.1)) (cell_itself B L c m.width fit.width m.rest fit.cells.0)

  -- at a width
  module _ (c : C) (w : ℕ) (ok : IsWidth w) where
    at_fits : (m : Map W N) (k : ℕ) → EachCell (CellFits B c w) m → CellFits B c w (cell m k)
    at_fits m k h = each_cell (CellFits B c w) m.rest m.cells k h.0 h.1

  pub absorbs_on : AbsorbsOn B
  absorbs_on c cap x y z fx fy fz e d a b = absorbs_from B c x z
      (λ k i. cell_on B L c x.width fx.width (cell x k) (cell y k) (cell z k) (at_fits c x.width fx.width x k fx.cells) (at_fits c x.width fx.width y k at_y) (at_fits c x.width fx.width z k at_z)
      (absorbed_at B c x y k a) (subst (λ w. IsTrue (absorbs_cell B c w (cell y k) (cell z k))) (sym e) (absorbed_at B c y z k b)))
      (cell_on B L c x.width fx.width x.rest y.rest z.rest fx.cells.0 at_y.0 at_z.0 (absorbed_rest B c x y a) (subst (λ w. IsTrue (absorbs_cell B c w y.rest z.rest)) (sym e) (absorbed_rest B c y z b)))
    where
      at_y : EachCell (CellFits B c x.width) y
      at_y = fit_at B c y x.width e fy.cells

      at_z : EachCell (CellFits B c x.width) z
      at_z = fit_at B c z x.width (e ∙ d) fz.cells

  pub absorbs_describes : AbsorbsDescribes B
  absorbs_describes c cap valuation f old new fo fn e a d k =
      cell_describes B L c old.width fo.width valuation (f k) (cell old k) (cell new k) (at_fits c old.width fo.width old k fo.cells) (at_fits c old.width fo.width new k (fit_at B c new old.width e fn.cells))
      (absorbed_at B c old new k a) (subst (λ w. CellDescribes B valuation w (f k) (cell new k)) (sym e) (d k))

  module _ (c : C) (cap : ℕ) (m n : Map W N) (ok : IsWidth m.width) (fm : EachCell (CellFits B c m.width) m) (fn : EachCell (CellFits B c m.width) n) where
    merged_fits : EachCell (CellFits B c m.width) (merged B c m n)
    merged_fits = merged_each B c m n (CellFits B c m.width) (cell_join_fits B L c m.width ok) fm fn

    pub joined_maps_fit : EachCell (CellFits B c m.width) (join_of B c cap m n)
    joined_maps_fit = join_each B c cap m n (CellFits B c m.width) (cell_join_fits B L c m.width ok) fm fn

    -- what each cell of the unfolded join absorbs, that of the join absorbs
    over_merged : (k : ℕ) (z : AbstractCell W N) → CellFits B c m.width z → IsTrue (absorbs_cell B c m.width (cell (merged B c m n) k) z) → IsTrue (absorbs_cell B c m.width (cell (join_of B c cap m n) k) z)
    over_merged k z fz a = cell_on B L c m.width ok (cell (join_of B c cap m n) k) (cell (merged B c m n) k) z (at_fits c m.width ok (join_of B c cap m n) k joined_maps_fit) (at_fits c m.width ok (merged B c m n) k merged_fits) fz
        (folded_over B L c cap (merged B c m n) ok merged_fits k) a

    over_merged_rest : (z : AbstractCell W N) → CellFits B c m.width z → IsTrue (absorbs_cell B c m.width (merged B c m n).rest z) → IsTrue (absorbs_cell B c m.width (join_of B c cap m n).rest z)
    over_merged_rest z fz a = cell_on B L c m.width ok (join_of B c cap m n).rest (merged B c m n).rest z joined_maps_fit.0 merged_fits.0 fz (folded_over_rest B L c cap (merged B c m n) ok merged_fits) a

    pub join_over_left : IsTrue B.joins → (k : ℕ) → IsTrue (absorbs_cell B c m.width (cell (join_of B c cap m n) k) (cell m k))
    join_over_left j k = over_merged k (cell m k) (at_fits c m.width ok m k fm)
        (at_cell (λ t. IsTrue (absorbs_cell B c m.width t (cell m k))) (merged B c m n).rest (either_key (keys m) (keys n)) (λ k. join_cells B c m.width (cell m k) (cell n k)) k
        (λ a. cell_join_left B L c m.width ok (cell m k) (cell n k) j (at_fits c m.width ok m k fm) (at_fits c m.width ok n k fn))
        (λ o. subst (λ t. IsTrue (absorbs_cell B c m.width (merged B c m n).rest t)) (sym (cell_past m.rest m.cells k (λ a. o (either_left k (keys m) (keys n) a)))) (cell_join_left B L c m.width ok m.rest n.rest j fm.0 fn.0)))

    pub join_over_right : IsTrue B.joins → (k : ℕ) → IsTrue (absorbs_cell B c m.width (cell (join_of B c cap m n) k) (cell n k))
    join_over_right j k = over_merged k (cell n k) (at_fits c m.width ok n k fn)
        (at_cell (λ t. IsTrue (absorbs_cell B c m.width t (cell n k))) (merged B c m n).rest (either_key (keys m) (keys n)) (λ k. join_cells B c m.width (cell m k) (cell n k)) k
        (λ a. cell_join_right B L c m.width ok (cell m k) (cell n k) j (at_fits c m.width ok m k fm) (at_fits c m.width ok n k fn))
        (λ o. subst (λ t. IsTrue (absorbs_cell B c m.width (merged B c m n).rest t)) (sym (cell_past n.rest n.cells k (λ a. o (either_right k (keys m) (keys n) a)))) (cell_join_right B L c m.width ok m.rest n.rest j fm.0 fn.0)))

    pub join_over_rests : IsTrue B.joins → IsTrue (absorbs_cell B c m.width (join_of B c cap m n).rest m.rest) × IsTrue (absorbs_cell B c m.width (join_of B c cap m n).rest n.rest)
    join_over_rests j = (over_merged_rest m.rest fm.0 (cell_join_left B L c m.width ok m.rest n.rest j fm.0 fn.0), over_merged_rest n.rest fn.0 (cell_join_right B L c m.width ok m.rest n.rest j fm.0 fn.0))

  pub join_absorbs : JoinAbsorbs B
  join_absorbs c cap m n j fm fn e = (
    absorbs_from B c (join_of B c cap m n) m (λ k a. join_over_left c cap m n fm.width fm.cells at_n j k) (join_over_rests c cap m n fm.width fm.cells at_n j).0,
    absorbs_from B c (join_of B c cap m n) n (λ k a. join_over_right c cap m n fm.width fm.cells at_n j k) (join_over_rests c cap m n fm.width fm.cells at_n j).1,
  )
    where
      at_n : EachCell (CellFits B c m.width) n
      at_n = fit_at B c n m.width e fn.cells

  pub join_describes : JoinDescribes B
  join_describes c cap valuation f m n j fm fn e d k = sorted d
    where
      at_n : EachCell (CellFits B c m.width) n
      at_n = fit_at B c n m.width e fn.cells

      sorted : Describes B valuation f m ⊎ Describes B valuation f n → CellDescribes B valuation m.width (f k) (cell (join_of B c cap m n) k)
      sorted (inl h) = cell_describes B L c m.width fm.width valuation (f k) (cell (join_of B c cap m n) k) (cell m k) (at_fits c m.width fm.width (join_of B c cap m n) k (joined_maps_fit c cap m n fm.width fm.cells at_n)) (at_fits c m.width fm.width m k fm.cells)
          (join_over_left c cap m n fm.width fm.cells at_n j k) (h k)
      sorted (inr h) = cell_describes B L c m.width fm.width valuation (f k) (cell (join_of B c cap m n) k) (cell n k) (at_fits c m.width fm.width (join_of B c cap m n) k (joined_maps_fit c cap m n fm.width fm.cells at_n)) (at_fits c m.width fm.width n k at_n)
          (join_over_right c cap m n fm.width fm.cells at_n j k) (subst (λ w. CellDescribes B valuation w (f k) (cell n k)) (sym e) (h k))

  pub join_least : JoinLeast B
  join_least c cap m n z fm fn fz e d room a b =
      subst (λ t. IsTrue (absorbs_of B c z t)) (sym (folded_same B c cap (merged B c m n) (subst (λ l. l ≤ cap) (sym (length_made (either_key (keys m) (keys n)) (λ k. join_cells B c m.width (cell m k) (cell n k)))) room)))
      (absorbs_from B c z (merged B c m n) (λ k i. at k) rests)
    where
      at_m : EachCell (CellFits B c z.width) m
      at_m = fit_at B c m z.width d fm.cells

      at_n : EachCell (CellFits B c z.width) n
      at_n = fit_at B c n z.width (d ∙ e) fn.cells

      rests : IsTrue (absorbs_cell B c z.width z.rest (join_cells B c m.width m.rest n.rest))
      rests = subst (λ w. IsTrue (absorbs_cell B c z.width z.rest (join_cells B c w m.rest n.rest))) d (cell_least B L c z.width fz.width m.rest n.rest z.rest at_m.0 at_n.0 fz.cells.0 (absorbed_rest B c z m a) (absorbed_rest B c z n b))

      both : (k : ℕ) → IsTrue (absorbs_cell B c z.width (cell z k) (join_cells B c m.width (cell m k) (cell n k)))
      both k = subst (λ w. IsTrue (absorbs_cell B c z.width (cell z k) (join_cells B c w (cell m k) (cell n k)))) d
          (cell_least B L c z.width fz.width (cell m k) (cell n k) (cell z k) (at_fits c z.width fz.width m k at_m) (at_fits c z.width fz.width n k at_n) (at_fits c z.width fz.width z k fz.cells) (absorbed_at B c z m k a) (absorbed_at B c z n k b))

      at : (k : ℕ) → IsTrue (absorbs_cell B c z.width (cell z k) (cell (merged B c m n) k))
      at k = at_cell (λ t. IsTrue (absorbs_cell B c z.width (cell z k) t)) (merged B c m n).rest (either_key (keys m) (keys n)) (λ k. join_cells B c m.width (cell m k) (cell n k)) k
          (λ i. both k)
          (λ o. subst (λ t. IsTrue (absorbs_cell B c z.width (cell z k) (join_cells B c m.width m.rest t))) (cell_past n.rest n.cells k (λ i. o (either_right k (keys m) (keys n) i)))
          (subst (λ t. IsTrue (absorbs_cell B c z.width (cell z k) (join_cells B c m.width t (cell n k)))) (cell_past m.rest m.cells k (λ i. o (either_left k (keys m) (keys n) i))) (both k)))

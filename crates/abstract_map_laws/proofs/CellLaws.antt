-- The laws of cells, from those of words and notes.
use Rattle.std.proofs.Common.{◌≡◌, ℕ, ◌+◌, ◌<◌, ◌≤◌, false, List, [], ◌∷◌, length, sym, ap, ◌∙◌, subst, arith, IsTrue, ◌⊎◌, inl, inr}
use Rattle.std.specs.Prelude.{◌++◌}
use Rattle.word_operations.specs.Width.{IsWidth}
use Rattle.base_trait.specs.Algebra.{Algebra}
use Rattle.base_trait.specs.Laws.{Laws}
use Rattle.base_trait.specs.Lists.{IsAmong, AreAmong, Each}
use Rattle.base_trait.specs.declared.uses.Stamp.{Stamp}
use Rattle.base_trait.proofs.Lists.{among_either, are_among_from, are_among_at}
use Rattle.base_trait.proofs.Tests.{and_both, and_parts, not_both, decide}
use Rattle.abstract_map_laws.specs.declared.cell.AbstractCell.{AbstractCell}
use Rattle.abstract_map_laws.specs.Cells.{Held, ListsOnly, CellDescribes, CellFits, join_cells, widen_cells, absorbs_cell, rank_cell, joined}

module _ {W N C : Type 0} (B : Algebra W N C) (L : Laws W N C B) (c : C) (w : ℕ) (ok : IsWidth w) where
  -- ---- absorption
  pub cell_itself : (x : AbstractCell W N) → CellFits B c w x → IsTrue (absorbs_cell B c w x x)
  cell_itself x h = and_both (B.words.absorbs c w x.word x.word) (B.notes.absorbs x.note x.note) (L.words.absorbs_itself c w x.word ok h) (L.notes.absorbs_itself x.note)

  pub cell_on : (x y z : AbstractCell W N) → CellFits B c w x → CellFits B c w y → CellFits B c w z
      → IsTrue (absorbs_cell B c w x y) → IsTrue (absorbs_cell B c w y z) → IsTrue (absorbs_cell B c w x z)
  cell_on x y z hx hy hz a b =
      let p = and_parts (B.words.absorbs c w x.word y.word) (B.notes.absorbs x.note y.note) a in
      let q = and_parts (B.words.absorbs c w y.word z.word) (B.notes.absorbs y.note z.note) b in
      and_both (B.words.absorbs c w x.word z.word) (B.notes.absorbs x.note z.note) (L.words.absorbs_on c w x.word y.word z.word ok hx hy hz p.0 q.0) (L.notes.absorbs_on x.note y.note z.note p.1 q.1)

  pub cell_describes : (valuation : List ℕ) (h : Held) (x y : AbstractCell W N) → CellFits B c w x → CellFits B c w y
      → IsTrue (absorbs_cell B c w x y) → CellDescribes B valuation w h y → CellDescribes B valuation w h x
  cell_describes valuation h x y hx hy a d =
      let p = and_parts (B.words.absorbs c w x.word y.word) (B.notes.absorbs x.note y.note) a in
      (L.words.absorbs_describes c valuation w h.number x.word y.word ok hx hy p.0 d.0, L.notes.absorbs_describes h.stamp x.note y.note p.1 d.1)

  -- ---- join
  pub cell_join_fits : (x y : AbstractCell W N) → CellFits B c w x → CellFits B c w y → CellFits B c w (join_cells B c w x y)
  cell_join_fits x y hx hy = L.words.join_fits c w x.word y.word ok hx hy

  pub cell_join_left : (x y : AbstractCell W N) → IsTrue B.joins → CellFits B c w x → CellFits B c w y → IsTrue (absorbs_cell B c w (join_cells B c w x y) x)
  cell_join_left x y j hx hy =
      and_both (B.words.absorbs c w (B.words.join c w x.word y.word) x.word) (B.notes.absorbs (B.notes.join x.note y.note) x.note)
      (L.words.join_absorbs c w x.word y.word ok (inl j) hx hy).0 (L.notes.join_absorbs x.note y.note (inl j)).0

  pub cell_join_right : (x y : AbstractCell W N) → IsTrue B.joins → CellFits B c w x → CellFits B c w y → IsTrue (absorbs_cell B c w (join_cells B c w x y) y)
  cell_join_right x y j hx hy =
      and_both (B.words.absorbs c w (B.words.join c w x.word y.word) y.word) (B.notes.absorbs (B.notes.join x.note y.note) y.note)
      (L.words.join_absorbs c w x.word y.word ok (inl j) hx hy).1 (L.notes.join_absorbs x.note y.note (inl j)).1

  pub cell_least : (x y z : AbstractCell W N) → CellFits B c w x → CellFits B c w y → CellFits B c w z
      → IsTrue (absorbs_cell B c w z x) → IsTrue (absorbs_cell B c w z y) → IsTrue (absorbs_cell B c w z (join_cells B c w x y))
  cell_least x y z hx hy hz a b =
      let p = and_parts (B.words.absorbs c w z.word x.word) (B.notes.absorbs z.note x.note) a in
      let q = and_parts (B.words.absorbs c w z.word y.word) (B.notes.absorbs z.note y.note) b in
      and_both (B.words.absorbs c w z.word (B.words.join c w x.word y.word)) (B.notes.absorbs z.note (B.notes.join x.note y.note))
      (L.words.join_least c w x.word y.word z.word ok hx hy hz p.0 q.0) (L.notes.join_least x.note y.note z.note p.1 q.1)

  -- ---- a cell joined with others
  pub joined_fits : (x : AbstractCell W N) (xs : List (AbstractCell W N)) → CellFits B c w x → Each (CellFits B c w) xs → CellFits B c w (joined B c w x xs)
  joined_fits x [] h k = h
  joined_fits x (y ∷ ys) h k = joined_fits (join_cells B c w x y) ys (cell_join_fits x y h k.0) k.1

  pub joined_first : (x : AbstractCell W N) (xs : List (AbstractCell W N)) → IsTrue B.joins → CellFits B c w x → Each (CellFits B c w) xs → IsTrue (absorbs_cell B c w (joined B c w x xs) x)
  joined_first x [] j h k = cell_itself x h
  joined_first x (y ∷ ys) j h k =
      cell_on (joined B c w (join_cells B c w x y) ys) (join_cells B c w x y) x (joined_fits (join_cells B c w x y) ys (cell_join_fits x y h k.0) k.1) (cell_join_fits x y h k.0) h
      (joined_first (join_cells B c w x y) ys j (cell_join_fits x y h k.0) k.1) (cell_join_left x y j h k.0)

  pub joined_item : (x : AbstractCell W N) (xs : List (AbstractCell W N)) (z : AbstractCell W N) → IsTrue B.joins → CellFits B c w x → Each (CellFits B c w) xs → IsAmong z xs → IsTrue (absorbs_cell B c w (joined B c w x xs) z)
  joined_item x [] z j h k a = absurd a
  joined_item x (y ∷ ys) z j h k (inr a) = joined_item (join_cells B c w x y) ys z j (cell_join_fits x y h k.0) k.1 a
  joined_item x (y ∷ ys) z j h k (inl e) =
      subst (λ t. IsTrue (absorbs_cell B c w (joined B c w x (y ∷ ys)) t)) (sym e)
      (cell_on (joined B c w (join_cells B c w x y) ys) (join_cells B c w x y) y (joined_fits (join_cells B c w x y) ys (cell_join_fits x y h k.0) k.1) (cell_join_fits x y h k.0) k.0
      (joined_first (join_cells B c w x y) ys j (cell_join_fits x y h k.0) k.1) (cell_join_right x y j h k.0))

  pub joined_least : (x : AbstractCell W N) (xs : List (AbstractCell W N)) (z : AbstractCell W N) → CellFits B c w z → CellFits B c w x → Each (CellFits B c w) xs
      → IsTrue (absorbs_cell B c w z x) → Each (λ y. IsTrue (absorbs_cell B c w z y)) xs → IsTrue (absorbs_cell B c w z (joined B c w x xs))
  joined_least x [] z hz h k a b = a
  joined_least x (y ∷ ys) z hz h k a b = joined_least (join_cells B c w x y) ys z hz (cell_join_fits x y h k.0) k.1 (cell_least x y z h k.0 hz a b.0) b.1

  -- ---- widening
  pub cell_widen_fits : (x y : AbstractCell W N) → CellFits B c w x → CellFits B c w y → CellFits B c w (widen_cells B c w x y)
  cell_widen_fits x y hx hy = L.words.widen_fits c w x.word y.word ok hx hy

  pub cell_widen_old : (x y : AbstractCell W N) → IsTrue B.joins → CellFits B c w x → CellFits B c w y → IsTrue (absorbs_cell B c w (widen_cells B c w x y) x)
  cell_widen_old x y j hx hy =
      and_both (B.words.absorbs c w (B.words.widen c w x.word y.word) x.word) (B.notes.absorbs (B.notes.widen x.note y.note) x.note)
      (L.words.widen_absorbs c w x.word y.word ok (inl j) hx hy).0 (L.notes.widen_absorbs x.note y.note (inl j)).0

  pub cell_widen_new : (x y : AbstractCell W N) → IsTrue B.joins → CellFits B c w x → CellFits B c w y → IsTrue (absorbs_cell B c w (widen_cells B c w x y) y)
  cell_widen_new x y j hx hy =
      and_both (B.words.absorbs c w (B.words.widen c w x.word y.word) y.word) (B.notes.absorbs (B.notes.widen x.note y.note) y.note)
      (L.words.widen_absorbs c w x.word y.word ok (inl j) hx hy).1 (L.notes.widen_absorbs x.note y.note (inl j)).1

  pub cell_keeps : (x y : AbstractCell W N) → IsTrue B.joins → CellFits B c w x → CellFits B c w y → IsTrue (absorbs_cell B c w x y) → widen_cells B c w x y ≡ x
  cell_keeps x y j hx hy a =
      let p = and_parts (B.words.absorbs c w x.word y.word) (B.notes.absorbs x.note y.note) a in
      let word : B.words.widen c w x.word y.word ≡ x.word = L.words.widen_keeps c w x.word y.word ok j hx hy p.0 in
      let note : B.notes.widen x.note y.note ≡ x.note = L.notes.widen_keeps x.note y.note j p.1 in
      whole word note
    where
      whole : {v : W} {n : N} → v ≡ x.word → n ≡ x.note → record { word = v; note = n } ≡ x
      whole {v} {n} e d = ap (λ t. record { word = t; note = n }) e ∙ ap (λ t. record { word = x.word; note = t }) d

  module _ (stamps : List Stamp) where
    word_no_more : (x y : W) → IsTrue B.joins → B.words.fits c w x → B.words.fits c w y → B.words.rank c w (B.words.widen c w x y) ≤ B.words.rank c w x
    word_no_more x y j hx hy = sorted (decide (B.words.absorbs c w x y))
      where
        sorted : IsTrue (B.words.absorbs c w x y) ⊎ (B.words.absorbs c w x y ≡ false) → B.words.rank c w (B.words.widen c w x y) ≤ B.words.rank c w x
        sorted (inl a) = let e = ap (λ v. B.words.rank c w v) (L.words.widen_keeps c w x y ok j hx hy a) in omega (arith, e)
        sorted (inr a) = let l = L.words.widen_falls c w x y ok j hx hy a in omega (arith, l)

    note_no_more : (x y : N) → IsTrue B.joins → AreAmong (B.notes.listed x) stamps → AreAmong (B.notes.listed y) stamps → B.notes.rank stamps (B.notes.widen x y) ≤ B.notes.rank stamps x
    note_no_more x y j hx hy = sorted (decide (B.notes.absorbs x y))
      where
        sorted : IsTrue (B.notes.absorbs x y) ⊎ (B.notes.absorbs x y ≡ false) → B.notes.rank stamps (B.notes.widen x y) ≤ B.notes.rank stamps x
        sorted (inl a) = let e = ap (λ v. B.notes.rank stamps v) (L.notes.widen_keeps x y j a) in omega (arith, e)
        sorted (inr a) = let l = L.notes.widen_falls stamps x y j hx hy a in omega (arith, l)

    pub cell_no_more : (x y : AbstractCell W N) → IsTrue B.joins → CellFits B c w x → CellFits B c w y → ListsOnly B stamps x → ListsOnly B stamps y
        → rank_cell B c w stamps (widen_cells B c w x y) ≤ rank_cell B c w stamps x
    cell_no_more x y j hx hy sx sy = let word = word_no_more x.word y.word j hx hy in let note = note_no_more x.note y.note j sx sy in omega (arith, word, note)

    pub cell_falls : (x y : AbstractCell W N) → IsTrue B.joins → CellFits B c w x → CellFits B c w y → ListsOnly B stamps x → ListsOnly B stamps y
        → absorbs_cell B c w x y ≡ false → rank_cell B c w stamps (widen_cells B c w x y) < rank_cell B c w stamps x
    cell_falls x y j hx hy sx sy a = sorted (not_both (B.words.absorbs c w x.word y.word) (B.notes.absorbs x.note y.note) a)
      where
        sorted : (B.words.absorbs c w x.word y.word ≡ false) ⊎ (B.notes.absorbs x.note y.note ≡ false) → rank_cell B c w stamps (widen_cells B c w x y) < rank_cell B c w stamps x
        sorted (inl b) = let word = L.words.widen_falls c w x.word y.word ok j hx hy b in let note = note_no_more x.note y.note j sx sy in omega (arith, word, note)
        sorted (inr b) = let word = word_no_more x.word y.word j hx hy in let note = L.notes.widen_falls stamps x.note y.note j sx sy b in omega (arith, word, note)

    pub cell_height : (x : AbstractCell W N) → CellFits B c w x → rank_cell B c w stamps x ≤ B.words.height w + B.notes.height (length stamps)
    cell_height x hx = let word = L.words.rank_height c w x.word ok hx in let note = L.notes.rank_height stamps x.note in omega (arith, word, note)

-- ---- stamps
module _ {W N C : Type 0} (B : Algebra W N C) (L : Laws W N C B) (c : C) (w : ℕ) (stamps : List Stamp) where
  within : (xs ys zs : List Stamp) → AreAmong xs (ys ++ zs) → AreAmong ys stamps → AreAmong zs stamps → AreAmong xs stamps
  within xs ys zs h a b = are_among_from xs stamps (λ s k. sorted s (among_either s ys zs (are_among_at xs (ys ++ zs) s h k)))
    where
      sorted : (s : Stamp) → IsAmong s ys ⊎ IsAmong s zs → IsAmong s stamps
      sorted s (inl i) = are_among_at ys stamps s a i
      sorted s (inr i) = are_among_at zs stamps s b i

  pub cell_join_lists : (x y : AbstractCell W N) → ListsOnly B stamps x → ListsOnly B stamps y → ListsOnly B stamps (join_cells B c w x y)
  cell_join_lists x y a b = within (B.notes.listed (B.notes.join x.note y.note)) (B.notes.listed x.note) (B.notes.listed y.note) (L.notes.join_lists x.note y.note) a b

  pub cell_widen_lists : (x y : AbstractCell W N) → ListsOnly B stamps x → ListsOnly B stamps y → ListsOnly B stamps (widen_cells B c w x y)
  cell_widen_lists x y a b = within (B.notes.listed (B.notes.widen x.note y.note)) (B.notes.listed x.note) (B.notes.listed y.note) (L.notes.widen_lists x.note y.note) a b

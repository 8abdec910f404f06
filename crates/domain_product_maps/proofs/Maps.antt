-- Maps put together from their parts.
use Rattle.std.proofs.Common.{◌≡◌, ℕ, ◌<◌, ◌≤◌, Bool, true, false, List, [], ◌∷◌, map, length, take, drop, zero, suc, refl, sym, ap, subst, ◌∙◌, arith, cond, Some, Result, Ok, Err}
use Rattle.std.specs.Prelude.{◌^◌, slice_get, IfOk, IsOkAnd, Vec}
use Rattle.std.specs.declared.alloc.Global.{Global}
use Rattle.std.proofs.lemmas.List.{drop_all}
use Rattle.base_trait.specs.Algebra.{Algebra}
use Rattle.base_trait.specs.Lists.{IsAscending}
use Rattle.base_product.specs.Meaning.{paired}
use Rattle.abstract_map_laws.specs.declared.cell.AbstractCell.{AbstractCell}
use Rattle.abstract_map_laws.specs.Calls.{access_of, folded, rest_with}
use Rattle.abstract_map_laws.specs.Cells.{CellFits}
use Rattle.abstract_map_laws.specs.Keys.{either_key, some}
use Rattle.abstract_map_laws.specs.Maps.{EachCell, Fits, Map, cell, keys}
use Rattle.abstract_map_laws.proofs.Joining.{fit_at, take_all}
use Rattle.abstract_map_laws.proofs.KeyLists.{either_ascends}
use Rattle.abstract_map_laws.proofs.Places.{each_cell, each_made, keys_of_cells}
use Rattle.abstract_map_laws.proofs.Fitting.{each_zero}
use Rattle.abstract_map.specs.Unfolded.{FitsUnfolded}
use Rattle.abstract_map.proofs.Whole.{if_ok, made_is}
use Rattle.domain_product_laws.specs.Calls.{mapped_cell, mapped_cells, zip_cells, zipped}
use Rattle.domain_product_laws.proofs.ZippedMaps.{zipped_keys_each}

-- ---- cells put together
module _ {W N E : Type 0} where
  -- a word with its note
  pub noted_is : (word w : W) (n : N) (note : Result N E) (r : Result (AbstractCell W N) E) → IfOk r (λ x. IsOkAnd note (λ m. x ≡ record { word = word; note = m })) → word ≡ w → IfOk note (λ m. m ≡ n)
      → IfOk r (λ x. x ≡ record { word = w; note = n })
  noted_is word w n (Ok m) (Ok x) h e d = h ∙ ap (λ t. record { word = t; note = m }) e ∙ ap (λ t. record { word = w; note = t }) d
  noted_is word w n (Err e) (Ok x) h e' d = absurd h
  noted_is word w n note (Err e) h e' d = h

module _ {V W M N E : Type 0} where
  -- two words and two notes side by side
  pub beside_is : (left : Result (V × M) E) (right : Result (W × N) E) (r : Result (AbstractCell (V × W) (M × N)) E) (p : AbstractCell V M) (q : AbstractCell W N)
      → IfOk r (λ t. IsOkAnd left (λ x. IsOkAnd right (λ y. t ≡ record { word = (x.0, y.0); note = (x.1, y.1) }))) → IfOk left (λ x. ◌≡◌ {A = AbstractCell V M} (record { word = x.0; note = x.1 }) p)
      → IfOk right (λ y. ◌≡◌ {A = AbstractCell W N} (record { word = y.0; note = y.1 }) q) → IfOk r (λ t. t ≡ zip_cells p q)
  beside_is (Ok x) (Ok y) (Ok t) p q h e d = h ∙ ap (λ c. record { word = (c.word, y.0); note = (c.note, y.1) }) e ∙ ap (λ c. zip_cells p c) d
  beside_is (Ok x) (Err f) (Ok t) p q h e d = absurd h
  beside_is (Err f) right (Ok t) p q h e d = absurd h
  beside_is left right (Err f) p q h e d = tt

module _ {V W M N C D E : Type 0} where
  -- what a read at a key gives that neither lists
  pub rests_are : (A : Algebra V M C) (B : Algebra W N D) (c : C × D) (x : Map V M) (y : Map W N) (ks : List ℕ) (r : Result (AbstractCell (V × W) (M × N)) E) → ks ≡ []
      → IfOk r (λ t. t ≡ zip_cells (access_of A c.0 x (some ks false)) (access_of B c.1 y (some ks false))) → IfOk r (λ t. t ≡ zip_cells x.rest y.rest)
  rests_are A B c x y ks (Ok t) e h = h ∙ ap (λ l. zip_cells (access_of A c.0 x (some l false)) (access_of B c.1 y (some l false))) e
  rests_are A B c x y ks (Err f) e h = h

-- a value with its key
module _ {T E : Type 0} where
  pub keyed_is : (k : ℕ) (v : T) (value : Result T E) (r : Result (ℕ × T) E) → IfOk r (λ t. IsOkAnd value (λ x. t ≡ (k, x))) → IfOk value (λ x. x ≡ v) → IfOk r (λ t. t ≡ (k, v))
  keyed_is k v (Ok x) (Ok t) h e = h ∙ ap (λ y. (k, y)) e
  keyed_is k v (Err f) (Ok t) h e = absurd h
  keyed_is k v value (Err f) h e = tt

-- ---- room
module _ {W N C : Type 0} (B : Algebra W N C) (c : C) where
  -- what fits where fewer cells may be listed
  pub fits_more : (low high : ℕ) (m : Map W N) → low ≤ high → Fits B c low m → Fits B c high m
  fits_more low high m l fit = let few = fit.few in record { width = fit.width; cells = fit.cells; order = fit.order; bound = fit.bound; few = omega (arith, l, few) }

  -- nothing is folded where there is room
  pub folded_none : (cap : ℕ) (m : Map W N) → length m.cells ≤ cap → folded B c cap m ≡ m
  folded_none cap m few = by_joins B.joins
    where
      by_joins : (b : Bool) → ◌≡◌ {A = Map W N} (record { width = m.width; rest = cond b (rest_with B c m.width m.rest (drop cap m.cells)) m.rest; cells = cond b (take cap m.cells) m.cells }) m
      by_joins true = ap (λ es. record { width = m.width; rest = rest_with B c m.width m.rest es; cells = take cap m.cells }) (drop_all cap m.cells few) ∙ ap (λ es. record { width = m.width; rest = m.rest; cells = es }) (take_all cap m.cells few)
      by_joins false = refl

  -- a map that fits, as it is made
  pub unfolded : (cap : ℕ) (m : Map W N) → Fits B c cap m → FitsUnfolded B c m
  unfolded cap m fit = record { width = fit.width; cells = fit.cells; order = fit.order; bound = fit.bound }

-- ---- maps made of a rest and of cells, where there are both
module _ {W N C E : Type 0} (B : Algebra W N C) (c : C) (cap : ℕ) (w : ℕ) (rest : Result (AbstractCell W N) E) (cells : Result (Vec (ℕ × AbstractCell W N) Global) E) (n : Map W N) where
  pub made_fits : w ≡ n.width → IfOk rest (λ x. x ≡ n.rest) → IfOk cells (λ es. es.items ≡ n.cells) → FitsUnfolded B c n → IfOk rest (λ x. IfOk cells (λ es. FitsUnfolded B c (record { width = w; rest = x; cells = es.items })))
  made_fits a b d fit = sorted rest cells b d
    where
      sorted : (rest : Result (AbstractCell W N) E) (cells : Result (Vec (ℕ × AbstractCell W N) Global) E) → IfOk rest (λ x. x ≡ n.rest) → IfOk cells (λ es. es.items ≡ n.cells)
          → IfOk rest (λ x. IfOk cells (λ es. FitsUnfolded B c (record { width = w; rest = x; cells = es.items })))
      sorted (Ok x) (Ok es) b d = subst (λ t. FitsUnfolded B c t) (sym (made_is w x es.items n a b d)) fit
      sorted (Ok x) (Err e) b d = tt
      sorted (Err e) cells b d = tt

  pub made_folded : (r : Result (Map W N) E) → w ≡ n.width → IfOk rest (λ x. x ≡ n.rest) → IfOk cells (λ es. es.items ≡ n.cells)
      → IfOk r (λ m. IsOkAnd rest (λ x. IsOkAnd cells (λ es. m ≡ folded B c cap (record { width = w; rest = x; cells = es.items })))) → IfOk r (λ m. m ≡ folded B c cap n)
  made_folded r a b d h = sorted rest cells r b d h
    where
      sorted : (rest : Result (AbstractCell W N) E) (cells : Result (Vec (ℕ × AbstractCell W N) Global) E) (r : Result (Map W N) E) → IfOk rest (λ x. x ≡ n.rest) → IfOk cells (λ es. es.items ≡ n.cells)
          → IfOk r (λ m. IsOkAnd rest (λ x. IsOkAnd cells (λ es. m ≡ folded B c cap (record { width = w; rest = x; cells = es.items })))) → IfOk r (λ m. m ≡ folded B c cap n)
      sorted (Ok x) (Ok es) (Ok m) b d h = h ∙ ap (λ t. folded B c cap t) (made_is w x es.items n a b d)
      sorted (Ok x) (Err e) (Ok m) b d h = absurd h
      sorted (Err e) cells (Ok m) b d h = absurd h
      sorted rest cells (Err e) b d h = tt

  -- where there is room
  pub made_same : (r : Result (Map W N) E) → w ≡ n.width → IfOk rest (λ x. x ≡ n.rest) → IfOk cells (λ es. es.items ≡ n.cells) → Fits B c cap n
      → IfOk r (λ m. IsOkAnd rest (λ x. IsOkAnd cells (λ es. m ≡ folded B c cap (record { width = w; rest = x; cells = es.items })))) → IfOk r (λ m. m ≡ n)
  made_same r a b d fit h = if_ok (λ m. m ≡ folded B c cap n) (λ m. m ≡ n) r (λ m e. e ∙ folded_none B c cap n fit.few) (made_folded r a b d h)

-- ---- two maps side by side
module _ {V W M N C D : Type 0} (A : Algebra V M C) (B : Algebra W N D) (c : C × D) (a b : ℕ) (x : Map V M) (y : Map W N) where
  pub zipped_unfolded : Fits A c.0 a x → Fits B c.1 b y → x.width ≡ y.width → FitsUnfolded (paired A B) c (zipped x y)
  zipped_unfolded fx fy e = record {
    width = fx.width;
    cells = (
      at_both x.rest y.rest fx.cells.0 right.0,
      each_made (CellFits (paired A B) c x.width) (either_key (keys x) (keys y)) (λ k. zip_cells (cell x k) (cell y k)) (λ k among. at_both (cell x k) (cell y k)
          (each_cell (CellFits A c.0 x.width) x.rest x.cells k fx.cells.0 fx.cells.1) (each_cell (CellFits B c.1 x.width) y.rest y.cells k right.0 right.1)),
    );
    order = subst (λ ks. IsAscending ks) (sym (keys_of_cells (either_key (keys x) (keys y)) (λ k. zip_cells (cell x k) (cell y k)))) (either_ascends 0 (keys x) (keys y) (each_zero (keys x)) fy.order);
    bound = zipped_keys_each x y (λ k. k < 2 ^ 32) fx.bound fy.bound;
  }
    where
      right : EachCell (CellFits B c.1 x.width) y
      right = fit_at B c.1 y x.width e fy.cells

      at_both : (p : AbstractCell V M) (q : AbstractCell W N) → CellFits A c.0 x.width p → CellFits B c.1 x.width q → CellFits (paired A B) c x.width (zip_cells p q)
      at_both p q h k = (h, k)

-- ---- the part of each cell
module _ {V W M N : Type 0} (f : V → W) (g : M → N) where
  mapped_at : (es : List (ℕ × AbstractCell V M)) (i k at : ℕ) (x : AbstractCell V M) → slice_get es i ≡ Some (at, x) → slice_get (map (λ e. e.0) es) i ≡ Some k → slice_get (mapped_cells f g es) i ≡ Some (k, mapped_cell f g x)
  mapped_at [] i k at x h p = absurd cc
  mapped_at (e ∷ es) zero k at x h p = let key : e.0 ≡ k = cc in let same : e ≡ (at, x) = cc in ap (λ n. Some (n, mapped_cell f g e.1)) key ∙ ap (λ d. Some (k, mapped_cell f g d.1)) same
  mapped_at (e ∷ es) (suc i) k at x h p = mapped_at es i k at x h p

  -- the part of a listed cell with its key
  pub entry_is : {E : Type 0} (es : List (ℕ × AbstractCell V M)) (i k at : ℕ) (x : AbstractCell V M) (part : Result (AbstractCell W N) E) (r : Result (ℕ × AbstractCell W N) E) → slice_get es i ≡ Some (at, x) → slice_get (map (λ e. e.0) es) i ≡ Some k
      → IfOk part (λ t. t ≡ mapped_cell f g x) → IfOk r (λ t. IsOkAnd part (λ y. t ≡ (k, y))) → IfOk r (λ t. slice_get (mapped_cells f g es) i ≡ Some t)
  entry_is es i k at x part r here key is h =
      if_ok (λ t. t ≡ (k, mapped_cell f g x)) (λ t. slice_get (mapped_cells f g es) i ≡ Some t) r (λ t e. mapped_at es i k at x here key ∙ ap (λ z. Some z) (sym e)) (keyed_is k (mapped_cell f g x) part r h is)

  pub length_mapped : (es : List (ℕ × AbstractCell V M)) → length (mapped_cells f g es) ≡ length es
  length_mapped [] = refl
  length_mapped (e ∷ es) = ap (λ n. suc n) (length_mapped es)

  pub part_is : {E : Type 0} (x first : AbstractCell V M) (r : Result (AbstractCell W N) E) → x ≡ first → IfOk r (λ t. t ≡ mapped_cell f g first) → IfOk r (λ t. t ≡ mapped_cell f g x)
  part_is x first r e h = if_ok (λ t. t ≡ mapped_cell f g first) (λ t. t ≡ mapped_cell f g x) r (λ t d. d ∙ ap (mapped_cell f g) (sym e)) h

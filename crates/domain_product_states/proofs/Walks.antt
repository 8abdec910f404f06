-- Walks along the cells and the keys of a map, and along lists of values.
use Rattle.std.proofs.Common.{◌≡◌, ℕ, zero, suc, ◌+◌, ◌<◌, ◌≤◌, Bool, true, false, List, [], ◌∷◌, length, map as map_of, drop, get_or, Some, refl, sym, ap, ap₂, subst, ◌∙◌, arith}
use Rattle.std.specs.Prelude.{◌&&◌, ◌==◌, slice_get}
use Rattle.std.specs.List.{list_all}
use Rattle.std.proofs.lemmas.List.{drop_all}
use Rattle.std.proofs.lemmas.Bool.{ne_eqb}
use Rattle.base_trait.specs.Algebra.{Algebra}
use Rattle.base_trait.specs.Lists.{IsAscending}
use Rattle.abstract_map_laws.specs.declared.cell.AbstractCell.{AbstractCell}
use Rattle.abstract_map_laws.specs.Calls.{absorbs_of as absorbs_map}
use Rattle.abstract_map_laws.specs.Cells.{CellFits}
use Rattle.abstract_map_laws.specs.Keys.{either_key}
use Rattle.abstract_map_laws.specs.Maps.{Fits as MapFits, Map, cell, keys}
use Rattle.abstract_map_laws.proofs.Places.{each_cell}
use Rattle.abstract_value_laws.specs.Abs.{Abs, Parts, map, no_part, part, parts, word}
use Rattle.abstract_value_laws.specs.Calls.{absorbs_of, absorbs_parts}
use Rattle.abstract_value_laws.specs.Fits.{Fits, PartsFit}
use Rattle.abstract_value.specs.View.{abs}
use Rattle.abstract_value.specs.declared.value.AbstractValue.{AbstractValue, Map as AMap, Word}
use Rattle.abstract_value.proofs.Both.{IsBoth, tested}
use Rattle.abstract_value.proofs.Views.{abs_Map, abs_Word}
use Rattle.domain_product_laws.specs.Calls.{mapped_cell, mapped_map, mapped_parts, mapped_value}
use Rattle.domain_product_states.specs.Leaves.{AreLeaves, IsLeaf}
use Rattle.domain_product_states.proofs.Mapped.{keys_stay, mapped_at}
use Rattle.domain_product_states.proofs.Tests.{all_either, and_on}
use Rattle.spec_match_compiler.proofs.Loops.{drop_here}

-- ---- a test at keys, one after the other
module _ (test : ℕ → Bool) (ks : List ℕ) (i : ℕ) where
  module _ (k : ℕ) (key : slice_get ks i ≡ Some k) where
    key_here : (js : List ℕ) (i : ℕ) → slice_get js i ≡ Some k → drop i js ≡ k ∷ drop (suc i) js
    key_here [] i h = absurd cc
    key_here (j ∷ js) zero h = let same : j ≡ k = cc in ap (λ n. n ∷ js) same
    key_here (j ∷ js) (suc i) h = key_here js i h

    test_here : list_all test (drop i ks) ≡ test k && list_all test (drop (suc i) ks)
    test_here = ap (λ l. list_all test l) (key_here ks i key)

    pub test_on : (whole : Bool) → test k ≡ true → list_all test (drop i ks) ≡ whole → list_all test (drop (i + 1) ks) ≡ whole
    test_on whole t h =
        let next : i + 1 ≡ suc i = omega arith in
        ap (λ n. list_all test (drop n ks)) next ∙ sym (ap (λ b. b && list_all test (drop (suc i) ks)) t) ∙ sym test_here ∙ h

    pub test_off : (whole : Bool) → test k ≡ false → list_all test (drop i ks) ≡ whole → false ≡ whole
    test_off whole t h = sym (ap (λ b. b && list_all test (drop (suc i) ks)) t) ∙ sym test_here ∙ h

  pub test_end : (whole : Bool) → length ks ≤ i → list_all test (drop i ks) ≡ whole → true ≡ whole
  test_end whole past h = sym (ap (λ l. list_all test l) (drop_all i ks past)) ∙ h

-- ---- one test and then another
pub both_on : (a b p q : Bool) → a ≡ p → b ≡ q → a ≡ true → b ≡ p && q
both_on a b p q e d t = d ∙ ap (λ x. x && q) (sym (sym e ∙ t))

pub both_off : (a p q : Bool) → a ≡ p → a ≡ false → a ≡ p && q
both_off a p q e t = t ∙ ap (λ x. x && q) (sym (sym e ∙ t))

-- at the keys of either list
module _ (test : ℕ → Bool) (ks js : List ℕ) (a : Bool) where
  pub either_on : (b : Bool) → a ≡ list_all test ks → b ≡ list_all test js → a ≡ true → b ≡ list_all test (either_key ks js)
  either_on b e d t = both_on a b (list_all test ks) (list_all test js) e d t ∙ sym (all_either test ks js)

  pub either_off : a ≡ list_all test ks → a ≡ false → a ≡ list_all test (either_key ks js)
  either_off e t = both_off a (list_all test ks) (list_all test js) e t ∙ sym (all_either test ks js)

-- ---- the cell at a key fits, with its word and its note replaced
module _ {V W M N C : Type 0} (B : Algebra W N C) (c : C) (cap : ℕ) (f : V → W) (g : M → N) where
  pub keys_ascend : (m : Map V M) → MapFits B c cap (mapped_map f g m) → IsAscending (keys m)
  keys_ascend m fit = subst (λ ks. IsAscending ks) (keys_stay f g m.cells) fit.order

  pub fits_at : (w : ℕ) (m : Map V M) (k : ℕ) (x : AbstractCell V M) → w ≡ m.width → MapFits B c cap (mapped_map f g m) → cell m k ≡ x → B.words.fits c w (f x.word)
  fits_at w m k x e fit h =
      subst (λ t. B.words.fits c t (f x.word)) (sym e)
      (subst (λ y. CellFits B c m.width y) (mapped_at f g m k ∙ ap (mapped_cell f g) h) (each_cell (CellFits B c m.width) (mapped_map f g m).rest (mapped_map f g m).cells k fit.cells.0 fit.cells.1))

  pub fits_rest : (w : ℕ) (m : Map V M) (x : AbstractCell V M) → w ≡ m.width → MapFits B c cap (mapped_map f g m) → m.rest ≡ x → B.words.fits c w (f x.word)
  fits_rest w m x e fit h = subst (λ t. B.words.fits c t (f x.word)) (sym e) (subst (λ y. B.words.fits c m.width (f y.word)) h fit.cells.0)

  pub fits_word : (w : ℕ) (m : Map V M) (k : ℕ) (x : V) → w ≡ m.width → MapFits B c cap (mapped_map f g m) → x ≡ (cell m k).word → B.words.fits c w (f x)
  fits_word w m k x e fit h = subst (λ t. B.words.fits c w (f t)) (sym h) (fits_at w m k (cell m k) e fit refl)

  pub fits_rest_word : (w : ℕ) (m : Map V M) (x : V) → w ≡ m.width → MapFits B c cap (mapped_map f g m) → x ≡ m.rest.word → B.words.fits c w (f x)
  fits_rest_word w m x e fit h = subst (λ t. B.words.fits c w (f t)) (sym h) (fits_rest w m m.rest e fit refl)

-- a cell by its word and its note, both replaced
module _ {V W M N : Type 0} (f : V → W) (g : M → N) (m : Map V M) where
  pub cell_is : (k : ℕ) (x : V) (y : M) → x ≡ (cell m k).word → y ≡ (cell m k).note → ◌≡◌ {A = AbstractCell W N} (record { word = f x; note = g y }) (cell (mapped_map f g m) k)
  cell_is k x y p q = ap₂ (λ (s : V) (t : M). mapped_cell f g (record { word = s; note = t })) p q ∙ sym (mapped_at f g m k)

  pub rest_is : (x : V) (y : M) → x ≡ m.rest.word → y ≡ m.rest.note → ◌≡◌ {A = AbstractCell W N} (record { word = f x; note = g y }) (mapped_cell f g m.rest)
  rest_is x y p q = ap₂ (λ (s : V) (t : M). mapped_cell f g (record { word = s; note = t })) p q

-- ---- values of two lists, one by one
module _ {X Y U V W L M N C D E : Type 0} (B : Algebra W N C) (c : C) (f : U → W) (g : L → N) (f' : V → W) (g' : M → N) where
  pub values_both : IsBoth {A = AbstractValue X U L D} {D = AbstractValue Y V M E} (λ x y. absorbs_of B c (mapped_value f g (abs x)) (mapped_value f' g' (abs y))) (λ xs ys. absorbs_parts B c (mapped_parts f g (parts (map_of abs xs))) (mapped_parts f' g' (parts (map_of abs ys))))
  values_both = record { end = refl; step = λ x y xs ys. refl; left = λ y ys. refl; right = λ x xs. refl }

module _ {X V W M N C D : Type 0} (B : Algebra W N C) (c : C) (cap : ℕ) (f : V → W) (g : M → N) where
  pub values_fit_here : (xs : List (AbstractValue X V M D)) (i : ℕ) (x : AbstractValue X V M D) → x ≡ get_or xs i x → i < length xs → PartsFit B c cap (mapped_parts f g (parts (map_of abs (drop i xs))))
      → Fits B c cap (mapped_value f g (abs x)) × PartsFit B c cap (mapped_parts f g (parts (map_of abs (drop (i + 1) xs))))
  values_fit_here xs i x p l h = subst (λ k. PartsFit B c cap (mapped_parts f g (parts (map_of abs k)))) (drop_here xs i x p l) h

module _ {X V M D : Type 0} where
  pub leaves_here : (xs : List (AbstractValue X V M D)) (i : ℕ) (x : AbstractValue X V M D) → x ≡ get_or xs i x → i < length xs → AreLeaves (parts (map_of abs (drop i xs))) → IsLeaf (abs x) × AreLeaves (parts (map_of abs (drop (i + 1) xs)))
  leaves_here xs i x p l h = subst (λ k. AreLeaves (parts (map_of abs k))) (drop_here xs i x p l) h

-- words and maps stay so where their words and notes are replaced
module _ {V W M N : Type 0} (f : V → W) (g : M → N) where
  leaf_before : (x : Abs V M) → IsLeaf (mapped_value f g x) → IsLeaf x
  leaf_before (word w x) h = tt
  leaf_before (map m x) h = tt
  leaf_before _ h = absurd h

  pub leaves_before : (xs : Parts V M) → AreLeaves (mapped_parts f g xs) → AreLeaves xs
  leaves_before no_part h = tt
  leaves_before (part x xs) h = (leaf_before x h.0, leaves_before xs h.1)

-- ---- values by their forms
module _ {X V W M N D : Type 0} (f : V → W) (g : M → N) where
  pub word_of : (x : AbstractValue X V M D) (w : ℕ) (k : V) → x ≡ Word w k → mapped_value f g (abs x) ≡ word w (f k)
  word_of x w k e = ap (λ y. mapped_value f g y) (ap abs e ∙ abs_Word X M D w k)

  pub map_of_value : (x : AbstractValue X V M D) (n : ℕ) (m : Map V M) → x ≡ AMap n m → mapped_value f g (abs x) ≡ map n (mapped_map f g m)
  map_of_value x n m e = ap (λ y. mapped_value f g y) (ap abs e ∙ abs_Map X D n m)

module _ {W N C : Type 0} (B : Algebra W N C) (c : C) where
  pub words_absorbed : (w u : ℕ) (p q a b : W) (y : Abs W N) (r : Bool) → y ≡ word u q → w ≡ u → a ≡ p → b ≡ q → r ≡ B.words.absorbs c w a b → r ≡ absorbs_of B c (word w p) y
  words_absorbed w u p q a b y r is e ap' bq h = h ∙ ap₂ (λ s t. B.words.absorbs c w s t) ap' bq ∙ tested w u (B.words.absorbs c w p q) e ∙ sym (ap (λ z. absorbs_of B c (word w p) z) is)

  pub words_differ : (w u : ℕ) (p q : W) (y : Abs W N) → y ≡ word u q → (w ≡ u → ⊥) → false ≡ absorbs_of B c (word w p) y
  words_differ w u p q y is n = sym (ap (λ b. b && B.words.absorbs c w p q) (ne_eqb w u n)) ∙ sym (ap (λ z. absorbs_of B c (word w p) z) is)

  pub maps_absorbed : (m n : ℕ) (x z : Map W N) (y : Abs W N) (r : Bool) → y ≡ map n z → m ≡ n → r ≡ x.width == z.width && absorbs_map B c x z → r ≡ absorbs_of B c (map m x) y
  maps_absorbed m n x z y r is e h = h ∙ tested m n (x.width == z.width && absorbs_map B c x z) e ∙ and_on (m == n) (x.width == z.width) (absorbs_map B c x z) ∙ sym (ap (λ t. absorbs_of B c (map m x) t) is)

  pub maps_differ : (m n : ℕ) (x z : Map W N) (y : Abs W N) → y ≡ map n z → (m ≡ n → ⊥) → false ≡ absorbs_of B c (map m x) y
  maps_differ m n x z y is d = sym (ap (λ b. (b && x.width == z.width) && absorbs_map B c x z) (ne_eqb m n d)) ∙ sym (ap (λ t. absorbs_of B c (map m x) t) is)

-- numbers that differ
pub width_differs : (m n : ℕ) (b : Bool) → (m ≡ n → ⊥) → false ≡ (m == n && b)
width_differs m n b d = sym (ap (λ t. t && b) (ne_eqb m n d))

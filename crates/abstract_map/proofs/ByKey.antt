-- What a walk along ascending cells gives, by keys.
use Rattle.std.proofs.Common.{◌≡◌, ℕ, ◌+◌, ◌<◌, ◌≤◌, Bool, true, false, zero, suc, List, [], ◌∷◌, ◌++◌, map, length, get_or, take, drop, drop-cons, Option, Some, None, refl, sym, ap, subst, ◌∙◌, arith, cond, eqb, append_assoc}
use Rattle.std.specs.Prelude.{◌==◌, ◌&&◌, ◌||◌, not, is_some, option_map, nat_lt, unwrap_or}
use Rattle.std.proofs.lemmas.List.{drop_all}
use Rattle.std.specs.List.{filter, list_all}
use Rattle.base_trait.specs.Algebra.{Algebra}
use Rattle.base_trait.specs.Lists.{IsAscendingFrom}
use Rattle.base_trait.proofs.Lists.{number_told}
use Rattle.abstract_map_laws.specs.declared.cell.AbstractCell.{AbstractCell}
use Rattle.abstract_map_laws.specs.Keys.{has_key, with_key, either_key}
use Rattle.abstract_map_laws.specs.Cells.{CellFits}
use Rattle.abstract_map_laws.specs.Maps.{Map, Fits, keys, cell, cell_in, cells_at}
use Rattle.abstract_map_laws.specs.Calls.{news}
use Rattle.abstract_map_laws.proofs.Joining.{take_all}
use Rattle.abstract_map_laws.proofs.Places.{cells_again, each_cell}
use Rattle.abstract_cell_tree.specs.Entries.{listed_at}
use Rattle.abstract_map.proofs.Ascending.{cell_or, each_index}

module _ {W N : Type 0} where
  map_made : (G : ℕ → AbstractCell W N → AbstractCell W N) (ks : List ℕ) (f : ℕ → AbstractCell W N) → map (λ e. (e.0, G e.0 e.1)) (cells_at ks f) ≡ cells_at ks (λ k. G k (f k))
  map_made G [] f = refl
  map_made G (k ∷ ks) f = ap (λ l. (k, G k (f k)) ∷ l) (map_made G ks f)

  -- each cell changed, where it stands
  pub cells_by_key : (G : ℕ → AbstractCell W N → AbstractCell W N) (m : Map W N) → IsAscendingFrom 0 (keys m) → map (λ e. (e.0, G e.0 e.1)) m.cells ≡ cells_at (keys m) (λ k. G k (cell m k))
  cells_by_key G m h = ap (λ es. map (λ e. (e.0, G e.0 e.1)) es) (sym (cells_again 0 m.rest m.cells h)) ∙ map_made G (keys m) (cell m)

  filter_made : (test : ℕ → Bool) (ks : List ℕ) (f : ℕ → AbstractCell W N) → map (λ e. e.1) (filter (λ e. test e.0) (cells_at ks f)) ≡ map f (filter test ks)
  filter_made test [] f = refl
  filter_made test (k ∷ ks) f = by_test (test k) (filter_made test ks f)
    where
      by_test : (b : Bool) → map (λ e. e.1) (filter (λ e. test e.0) (cells_at ks f)) ≡ map f (filter test ks)
          → map (λ e. e.1) (cond b ((k, f k) ∷ filter (λ e. test e.0) (cells_at ks f)) (filter (λ e. test e.0) (cells_at ks f))) ≡ map f (cond b (k ∷ filter test ks) (filter test ks))
      by_test true later = ap (λ l. f k ∷ l) later
      by_test false later = later

  -- the cells that the new map alone lists, as they stand
  pub news_stand : (old new : Map W N) → IsAscendingFrom 0 (keys new) → map (λ e. e.1) (filter (λ e. not (has_key (keys old) e.0)) new.cells) ≡ news old new
  news_stand old new h =
      ap (λ es. map (λ e. e.1) (filter (λ e. not (has_key (keys old) e.0)) es)) (sym (cells_again 0 new.rest new.cells h)) ∙ filter_made (λ k. not (has_key (keys old) k)) (keys new) (cell new)

module _ {A : Type 0} where
  pub listed_has : (k : ℕ) (es : List (ℕ × A)) → is_some (listed_at k es) ≡ has_key (map (λ e. e.0) es) k
  listed_has k [] = refl
  listed_has k (e ∷ es) = by_test (eqb e.0 k) (listed_has k es)
    where
      by_test : (b : Bool) → is_some (listed_at k es) ≡ has_key (map (λ e. e.0) es) k → is_some (cond b (Some e.1) (listed_at k es)) ≡ (b || has_key (map (λ e. e.0) es) k)
      by_test true later = refl
      by_test false later = later

pub some_of_map : {R A : Type 0} (f : R → A) (o : Option R) → is_some o ≡ is_some (option_map f o)
some_of_map f None = refl
some_of_map f (Some x) = refl

-- ---- a test at the keys of either list
all_with : (test : ℕ → Bool) (k : ℕ) (ks : List ℕ) → list_all test (with_key k ks) ≡ test k && list_all test ks
all_with test k [] = refl
all_with test k (j ∷ js) = by_tests (nat_lt k j) (k == j) (λ s. ap test (number_told k j s)) (all_with test k js)
  where
    same : (a b c : Bool) → a ≡ b → b && c ≡ a && (b && c)
    same true true c e = refl
    same false false c e = refl
    same true false c e = cc
    same false true c e = cc

    swapped : (a b c : Bool) → b && (a && c) ≡ a && (b && c)
    swapped true true c = refl
    swapped true false c = refl
    swapped false true c = refl
    swapped false false c = refl

    by_tests : (a b : Bool) → (b ≡ true → test k ≡ test j) → list_all test (with_key k js) ≡ test k && list_all test js
        → list_all test (cond a (k ∷ j ∷ js) (cond b (j ∷ js) (j ∷ with_key k js))) ≡ test k && (test j && list_all test js)
    by_tests true b s later = refl
    by_tests false true s later = same (test k) (test j) (list_all test js) (s refl)
    by_tests false false s later = ap (λ t. test j && t) later ∙ swapped (test k) (test j) (list_all test js)

pub all_either : (test : ℕ → Bool) (ks js : List ℕ) → list_all test ks && list_all test js ≡ list_all test (either_key ks js)
all_either test [] js = refl
all_either test (k ∷ ks) js = grouped (test k) (list_all test ks) (list_all test js) ∙ ap (λ t. test k && t) (all_either test ks js) ∙ sym (all_with test k (either_key ks js))
  where
    grouped : (a b c : Bool) → (a && b) && c ≡ a && (b && c)
    grouped true b c = refl
    grouped false b c = refl

-- ---- the cell at a key, from what is listed there
module _ {W N : Type 0} where
  pub found_some : (rest : AbstractCell W N) (es : List (ℕ × AbstractCell W N)) (k : ℕ) (x : AbstractCell W N) → Some x ≡ listed_at k es → x ≡ cell_in rest es k
  found_some rest es k x h = ap (λ o. unwrap_or o rest) h ∙ cell_or rest es k

  pub found_none : (rest : AbstractCell W N) (es : List (ℕ × AbstractCell W N)) (k : ℕ) → None ≡ listed_at k es → rest ≡ cell_in rest es k
  found_none rest es k h = ap (λ o. unwrap_or o rest) h ∙ cell_or rest es k

-- ---- the cell at a key fits
module _ {W N C : Type 0} (B : Algebra W N C) (c : C) (cap : ℕ) where
  pub fits_at : (w : ℕ) (m : Map W N) (k : ℕ) (x : AbstractCell W N) → w ≡ m.width → Fits B c cap m → x ≡ cell m k → CellFits B c w x
  fits_at w m k x e fit h = subst (λ t. CellFits B c t x) (sym e) (subst (λ t. CellFits B c m.width t) (sym h) (each_cell (CellFits B c m.width) m.rest m.cells k fit.cells.0 fit.cells.1))

  -- a listed cell fits
  pub fits_item : (w : ℕ) (m : Map W N) (es : List (ℕ × AbstractCell W N)) (i : ℕ) (x : ℕ × AbstractCell W N) → w ≡ m.width → Fits B c cap m → es ≡ m.cells → i < length es → x ≡ get_or es i x → CellFits B c w x.1
  fits_item w m es i x e fit p l h =
      subst (λ t. CellFits B c t x.1) (sym e) (subst (λ y. CellFits B c m.width y.1) (sym h) (subst (λ l. i < length l → CellFits B c m.width (get_or l i x).1) (sym p) (each_index (λ e. CellFits B c m.width e.1) m.cells i x fit.cells.1) l))

-- ---- loops
module _ {A D : Type 0} (f : A → D) where
  -- one more item
  map_more : (xs : List A) (i : ℕ) (d : A) → i < length xs → map f (take (suc i) xs) ≡ map f (take i xs) ++ f (get_or xs i d) ∷ []
  map_more [] i d l = absurd (omega arith)
  map_more (x ∷ xs) zero d l = refl
  map_more (x ∷ xs) (suc i) d l = ap (λ l. f x ∷ l) (map_more xs i d (omega arith))

  pub push_more : (out out' : List D) (y : D) (xs : List A) (i : ℕ) (d : A) → i < length xs → out ≡ map f (take i xs) → out' ≡ out ++ y ∷ [] → y ≡ f (get_or xs i d) → out' ≡ map f (take (i + 1) xs)
  push_more out out' y xs i d l h p e =
      let next : suc i ≡ i + 1 = omega arith in
      p ∙ ap (λ l. l ++ y ∷ []) h ∙ ap (λ z. map f (take i xs) ++ z ∷ []) e ∙ sym (map_more xs i d l) ∙ ap (λ n. map f (take n xs)) next

  -- all items
  pub map_done : (out : List D) (xs : List A) (i : ℕ) → length xs ≤ i → out ≡ map f (take i xs) → out ≡ map f xs
  map_done out xs i l h = h ∙ ap (λ t. map f t) (take_all i xs l)

  -- the same, behind others
  pub behind_more : (start out out' : List D) (y : D) (xs : List A) (i : ℕ) (d : A) → i < length xs → out ≡ start ++ map f (take i xs) → out' ≡ out ++ y ∷ [] → y ≡ f (get_or xs i d) → out' ≡ start ++ map f (take (i + 1) xs)
  behind_more start out out' y xs i d l h p e =
      let next : suc i ≡ i + 1 = omega arith in
      p ∙ ap (λ l. l ++ y ∷ []) h ∙ append_assoc start (map f (take i xs)) (y ∷ []) ∙ ap (λ z. start ++ (map f (take i xs) ++ z ∷ [])) e ∙ ap (λ l. start ++ l) (sym (map_more xs i d l) ∙ ap (λ n. map f (take n xs)) next)

  pub behind_done : (start out : List D) (xs : List A) (i : ℕ) → length xs ≤ i → out ≡ start ++ map f (take i xs) → out ≡ start ++ map f xs
  behind_done start out xs i l h = h ∙ ap (λ t. start ++ map f t) (take_all i xs l)

-- ---- a test at the keys that either map lists, taken at those of one and then of the other
module _ {W N : Type 0} (test : ℕ → Bool) (own other m n : Map W N) (es ds : List (ℕ × AbstractCell W N)) (a b : Bool) where
  pub second_test : own ≡ m → other ≡ n → es ≡ own.cells → ds ≡ other.cells → a ≡ list_all test (map (λ e. e.0) es) → b ≡ list_all test (map (λ e. e.0) ds) → a ≡ true → b ≡ list_all test (either_key (keys m) (keys n))
  second_test e d p q h g t =
      g ∙ ap (λ l. list_all test (map (λ e. e.0) l)) (q ∙ ap (λ m. m.cells) d)
      ∙ known (list_all test (keys m)) (list_all test (keys n)) (sym (h ∙ ap (λ l. list_all test (map (λ e. e.0) l)) (p ∙ ap (λ m. m.cells) e)) ∙ t) ∙ all_either test (keys m) (keys n)
    where
      known : (x y : Bool) → x ≡ true → y ≡ x && y
      known true y s = refl
      known false y s = cc

  pub first_test : own ≡ m → es ≡ own.cells → a ≡ list_all test (map (λ e. e.0) es) → a ≡ false → a ≡ list_all test (either_key (keys m) (keys n))
  first_test e p h t = t ∙ known (list_all test (keys m)) (list_all test (keys n)) (sym (h ∙ ap (λ l. list_all test (map (λ e. e.0) l)) (p ∙ ap (λ m. m.cells) e)) ∙ t) ∙ all_either test (keys m) (keys n)
    where
      known : (x y : Bool) → x ≡ false → false ≡ x && y
      known true y s = cc
      known false y s = refl

-- ---- a test at the keys of entries, one after the other
module _ {A : Type 0} (test : ℕ → Bool) (es : List (ℕ × A)) (i : ℕ) where
  module _ (e : ℕ × A) (whole : Bool) (left : i < length es) where
    here_is : list_all test (map (λ e. e.0) (drop i es)) ≡ test (get_or es i e).0 && list_all test (map (λ e. e.0) (drop (suc i) es))
    here_is = ap (λ l. list_all test (map (λ e. e.0) l)) (drop-cons es i e left)

    -- the test holds at one more
    pub all_on : test (get_or es i e).0 ≡ true → list_all test (map (λ e. e.0) (drop i es)) ≡ whole → list_all test (map (λ e. e.0) (drop (i + 1) es)) ≡ whole
    all_on t h =
        let next : i + 1 ≡ suc i = omega arith in
        ap (λ n. list_all test (map (λ e. e.0) (drop n es))) next ∙ sym (ap (λ b. b && list_all test (map (λ e. e.0) (drop (suc i) es))) t) ∙ sym here_is ∙ h

    -- it fails at one
    pub all_off : test (get_or es i e).0 ≡ false → list_all test (map (λ e. e.0) (drop i es)) ≡ whole → false ≡ whole
    all_off t h = sym (ap (λ b. b && list_all test (map (λ e. e.0) (drop (suc i) es))) t) ∙ sym here_is ∙ h

  -- it holds at all
  pub all_end : (whole : Bool) → length es ≤ i → list_all test (map (λ e. e.0) (drop i es)) ≡ whole → true ≡ whole
  all_end whole l h = sym (ap (λ l. list_all test (map (λ e. e.0) l)) (drop_all i es l)) ∙ h

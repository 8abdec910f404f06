-- Parts that are alike, put together.
use Rattle.std.proofs.Common.{◌≡◌, ℕ, zero, suc, ◌+◌, ◌<◌, ◌≤◌, List, [], ◌∷◌, ◌++◌, length, map as map_list, take, drop, get_or, Some, refl, sym, ap, ap₂, subst, ◌∙◌, arith, max}
use Rattle.std.specs.Prelude.{slice_get}
use Rattle.std.proofs.lemmas.List.{drop_all}
use Rattle.base_trait.specs.Algebra.{Algebra}
use Rattle.base_trait.specs.Lists.{IsAscending}
use Rattle.base_product.specs.Meaning.{paired}
use Rattle.abstract_map_laws.specs.Keys.{either_key}
use Rattle.abstract_map_laws.specs.Maps.{Map, cell, cells_at, keys}
use Rattle.abstract_map_laws.proofs.Fitting.{length_keys}
use Rattle.abstract_map_laws.proofs.Joining.{take_all}
use Rattle.abstract_map_laws.proofs.Places.{cells_again, keys_of_cells}
use Rattle.abstract_value_laws.specs.Abs.{Abs, Parts, word, map, no_part, part, parts}
use Rattle.abstract_value_laws.specs.Fits.{Fits, PartsFit}
use Rattle.abstract_value.specs.View.{abs}
use Rattle.abstract_value.specs.declared.value.AbstractValue.{AbstractValue}
use Rattle.domain_product_laws.specs.Calls.{first_map, first_value, second_map, second_value, zip_cells, zip_map, zip_parts, zip_value, zipped}
use Rattle.domain_product_laws.proofs.Values.{Meet, PartsMeet}
use Rattle.domain_product_maps.proofs.Maps.{folded_none}
use Rattle.domain_product_states.specs.Alike.{Alike, AreAlike}
use Rattle.domain_product_states.specs.Parts.{both_parts}
use Rattle.domain_product_states.proofs.Mapped.{mapped_made}
use Rattle.domain_product_states.proofs.Maps.{either_itself}
use Rattle.spec_match_compiler.proofs.Loops.{drop_here}

-- ---- one more key that both list
next_taken : (ks : List ℕ) (i k : ℕ) → slice_get ks i ≡ Some k → take (suc i) ks ≡ take i ks ++ k ∷ []
next_taken [] i k h = absurd cc
next_taken (j ∷ ks) zero k h = let same : j ≡ k = cc in ap (λ n. n ∷ []) same
next_taken (j ∷ ks) (suc i) k h = ap (λ l. j ∷ l) (next_taken ks i k h)

pub taken_more : (ks js : List ℕ) (i k j : ℕ) → slice_get ks i ≡ Some k → slice_get js i ≡ Some j → k ≡ j → take i ks ≡ take i js → take (i + 1) ks ≡ take (i + 1) js
taken_more ks js i k j p q e h =
    let next : i + 1 ≡ suc i = omega arith in
    ap (λ n. take n ks) next ∙ next_taken ks i k p ∙ ap₂ (λ l n. l ++ n ∷ []) h e ∙ sym (ap (λ n. take n js) next ∙ next_taken js i j q)

pub all_taken : (ks js : List ℕ) (i : ℕ) → length ks ≤ i → length js ≤ i → take i ks ≡ take i js → ks ≡ js
all_taken ks js i p q h = sym (take_all i ks p) ∙ h ∙ take_all i js q

-- ---- maps that list the same keys
module _ {V W M N C D : Type 0} (A : Algebra V M C) (B : Algebra W N D) (c : C × D) (cap : ℕ) (x : Map V M) (y : Map W N) (same : keys x ≡ keys y) (order : IsAscending (keys x)) (few : length x.cells ≤ cap) where
  one_list : either_key (keys x) (keys y) ≡ keys x
  one_list = ap (λ ks. either_key (keys x) ks) (sym same) ∙ either_itself (keys x) order

  unfolded : zip_map A B c cap x y ≡ zipped x y
  unfolded = folded_none (paired A B) c cap (zipped x y) (subst (λ n. n ≤ cap) (sym count) few)
    where
      count : length (zipped x y).cells ≡ length x.cells
      count =
          sym (length_keys (zipped x y).cells) ∙ ap (λ ks. length ks) (keys_of_cells (either_key (keys x) (keys y)) (λ k. zip_cells (cell x k) (cell y k)) ∙ one_list) ∙ length_keys x.cells

  pub first_again : first_map (zip_map A B c cap x y) ≡ x
  first_again =
      ap (λ m. first_map m) unfolded
      ∙ ap (λ es. record { width = x.width; rest = x.rest; cells = es })
      (mapped_made (λ p. p.0) (λ p. p.0) (either_key (keys x) (keys y)) (λ k. zip_cells (cell x k) (cell y k)) ∙ ap (λ ks. cells_at ks (cell x)) one_list ∙ cells_again 0 x.rest x.cells order)

  pub second_again : x.width ≡ y.width → second_map (zip_map A B c cap x y) ≡ y
  second_again wide =
      ap (λ m. second_map m) unfolded
      ∙ ap (λ es. record { width = x.width; rest = y.rest; cells = es })
      (mapped_made (λ p. p.1) (λ p. p.1) (either_key (keys x) (keys y)) (λ k. zip_cells (cell x k) (cell y k)) ∙ ap (λ ks. cells_at ks (cell y)) (one_list ∙ same) ∙ cells_again 0 y.rest y.cells (subst (λ ks. IsAscending ks) same order))
      ∙ ap (λ w. record { width = w; rest = y.rest; cells = y.cells }) wide

-- ---- values
module _ {V W M N C D : Type 0} (A : Algebra V M C) (B : Algebra W N D) (c : C × D) (low high : ℕ) where
  value_apart : (x : Abs V M) (y : Abs W N) → Alike x y → Fits A c.0 low x → (first_value (zip_value A B c (max low high) x y) ≡ x) × (second_value (zip_value A B c (max low high) x y) ≡ y)
  value_apart (word w x) (word u y) h fit = (refl, ap (λ n. word n y) h)
  value_apart (map m x) (map n y) h fit =
      let few = fit.few in
      let room : length x.cells ≤ max low high = omega (arith, few) in
      (ap (λ z. map m z) (first_again A B c (max low high) x y h.2 fit.order room), ap₂ (λ k z. map k z) h.0 (second_again A B c (max low high) x y h.2 fit.order room h.1))
  value_apart _ _ h fit = absurd h

  pub apart_again : (xs : Parts V M) (ys : Parts W N) → AreAlike xs ys → PartsFit A c.0 low xs → both_parts (zip_parts A B c (max low high) xs ys) ≡ (xs, ys)
  apart_again no_part no_part h fit = refl
  apart_again (part x xs) (part y ys) h fit =
      let here = value_apart x y h.0 fit.0 in
      let later = apart_again xs ys h.1 fit.1 in
      ap₂ (λ p q. (p, q)) (ap₂ (λ s t. part s t) here.0 (ap (λ p. p.0) later)) (ap₂ (λ s t. part s t) here.1 (ap (λ p. p.1) later))
  apart_again _ _ h fit = absurd h

module _ {V W M N : Type 0} where
  value_meets : (x : Abs V M) (y : Abs W N) → Alike x y → Meet x y
  value_meets (word w x) (word u y) h = h
  value_meets (map m x) (map n y) h = h.1
  value_meets _ _ h = absurd h

  pub alike_meet : (xs : Parts V M) (ys : Parts W N) → AreAlike xs ys → PartsMeet xs ys
  alike_meet no_part no_part h = tt
  alike_meet (part x xs) (part y ys) h = (value_meets x y h.0, alike_meet xs ys h.1)
  alike_meet no_part (part y ys) h = absurd h
  alike_meet (part x xs) no_part h = absurd h

-- ---- the values of two lists, one by one: where those that are left are alike, all are
module _ {X Y V W M N C D : Type 0} where
  abbrev pub Left : List (AbstractValue X V M C) → List (AbstractValue Y W N D) → ℕ → Type 0
  Left xs ys i = AreAlike (parts (map_list abs (drop i xs))) (parts (map_list abs (drop i ys)))

  pub alike_more : (xs : List (AbstractValue X V M C)) (ys : List (AbstractValue Y W N D)) (i : ℕ) (x : AbstractValue X V M C) (y : AbstractValue Y W N D) (all : Type 0) → x ≡ get_or xs i x → y ≡ get_or ys i y → i < length xs → i < length ys → Alike (abs x) (abs y)
      → (Left xs ys i → all) → Left xs ys (i + 1) → all
  alike_more xs ys i x y all p q l k h f rest =
      f (subst (λ t. AreAlike (parts (map_list abs t)) (parts (map_list abs (drop i ys)))) (sym (drop_here xs i x p l))
      (subst (λ t. AreAlike (part (abs x) (parts (map_list abs (drop (i + 1) xs)))) (parts (map_list abs t))) (sym (drop_here ys i y q k)) (h, rest)))

  pub alike_done : (xs : List (AbstractValue X V M C)) (ys : List (AbstractValue Y W N D)) (i : ℕ) → length xs ≤ i → length ys ≤ i → Left xs ys i
  alike_done xs ys i p q = subst (λ t. AreAlike (parts (map_list abs t)) (parts (map_list abs (drop i ys)))) (sym (drop_all i xs p)) (subst (λ t. AreAlike {V = V} {W = W} {M = M} {N = N} no_part (parts (map_list abs t))) (sym (drop_all i ys q)) tt)

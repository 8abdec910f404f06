-- Tests of two lists, item by item: lists of two lengths fail.
use Rattle.std.proofs.Common.{◌≡◌, ℕ, suc, ◌+◌, ◌<◌, ◌≤◌, Bool, true, false, List, [], ◌∷◌, length, drop, get_or, refl, sym, ap, subst, ◌∙◌}
use Rattle.std.specs.Prelude.{◌&&◌, ◌==◌}
use Rattle.std.proofs.lemmas.List.{drop_all}
use Rattle.base_trait.proofs.Lists.{number_itself}
use Rattle.spec_match_compiler.proofs.Loops.{drop_here}

pub record IsBoth {A D : Type 0} (one : A → D → Bool) (test : List A → List D → Bool) : Type 0 where
  pub end : test [] [] ≡ true
  pub step : (x : A) (y : D) (xs : List A) (ys : List D) → test (x ∷ xs) (y ∷ ys) ≡ (one x y && test xs ys)
  pub left : (y : D) (ys : List D) → test [] (y ∷ ys) ≡ false
  pub right : (x : A) (xs : List A) → test (x ∷ xs) [] ≡ false

-- a test of equal numbers changes nothing
pub tested : (m n : ℕ) (b : Bool) → m ≡ n → b ≡ (m == n && b)
tested m n b e = sym (ap (λ k. k && b) (ap (λ k. m == k) (sym e) ∙ number_itself m))

module _ {A D : Type 0} {one : A → D → Bool} {test : List A → List D → Bool} (both : IsBoth one test) where
  pub uneven : (xs : List A) (ys : List D) → (length xs ≡ length ys → ⊥) → false ≡ test xs ys
  uneven [] [] n = absurd (n refl)
  uneven [] (y ∷ ys) n = sym (both.left y ys)
  uneven (x ∷ xs) [] n = sym (both.right x xs)
  uneven (x ∷ xs) (y ∷ ys) n = by_test (one x y) (uneven xs ys (λ e. n (ap (λ k. suc k) e))) ∙ sym (both.step x y xs ys)
    where
      by_test : (b : Bool) → false ≡ test xs ys → false ≡ (b && test xs ys)
      by_test true h = h
      by_test false h = refl

  module _ (xs : List A) (ys : List D) (i : ℕ) (x : A) (y : D) (whole : Bool) (a : i < length xs) (b : i < length ys) (p : x ≡ get_or xs i x) (q : y ≡ get_or ys i y) where
    here : test (drop i xs) (drop i ys) ≡ (one x y && test (drop (i + 1) xs) (drop (i + 1) ys))
    here = ap (λ l. test l (drop i ys)) (drop_here xs i x p a) ∙ ap (λ l. test (x ∷ drop (i + 1) xs) l) (drop_here ys i y q b) ∙ both.step x y (drop (i + 1) xs) (drop (i + 1) ys)

    pub on : one x y ≡ true → test (drop i xs) (drop i ys) ≡ whole → test (drop (i + 1) xs) (drop (i + 1) ys) ≡ whole
    on t h = sym (ap (λ k. k && test (drop (i + 1) xs) (drop (i + 1) ys)) t) ∙ sym here ∙ h

    pub off : one x y ≡ false → test (drop i xs) (drop i ys) ≡ whole → false ≡ whole
    off t h = sym (ap (λ k. k && test (drop (i + 1) xs) (drop (i + 1) ys)) t) ∙ sym here ∙ h

  module _ (xs : List A) (ys : List D) (i : ℕ) (x : A) (y : D) (whole : Bool) (even : length xs ≡ length ys) (a : i < length xs) (p : x ≡ get_or xs i x) (q : y ≡ get_or ys i y) where
    -- the same of lists of one length
    pub passed : true ≡ one x y → test (drop i xs) (drop i ys) ≡ whole → test (drop (i + 1) xs) (drop (i + 1) ys) ≡ whole
    passed t h = on xs ys i x y whole a (subst (λ n. i < n) even a) p q (sym t) h

    pub failed : false ≡ one x y → test (drop i xs) (drop i ys) ≡ whole → false ≡ whole
    failed t h = off xs ys i x y whole a (subst (λ n. i < n) even a) p q (sym t) h

  pub done : (xs : List A) (ys : List D) (i : ℕ) (whole : Bool) → length xs ≤ i → length ys ≤ i → test (drop i xs) (drop i ys) ≡ whole → true ≡ whole
  done xs ys i whole a b h = sym both.end ∙ sym (ap (λ l. test l []) (drop_all i xs a)) ∙ sym (ap (λ l. test (drop i xs) l) (drop_all i ys b)) ∙ h

  pub ended : (xs : List A) (ys : List D) (i : ℕ) (whole : Bool) → length xs ≡ length ys → length xs ≤ i → test (drop i xs) (drop i ys) ≡ whole → true ≡ whole
  ended xs ys i whole e a h = done xs ys i whole a (subst (λ n. n ≤ i) e a) h

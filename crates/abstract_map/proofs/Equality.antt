-- Lists that are compared item by item.
use Rattle.std.proofs.Common.{◌≡◌, ℕ, ◌+◌, ◌<◌, ◌≤◌, Bool, true, false, suc, List, [], ◌∷◌, ◌++◌, length, get_or, take, drop, refl, sym, ap, ◌∙◌, arith, drop-cons}
use Rattle.std.specs.Prelude.{◌&&◌, not}
use Rattle.std.proofs.lemmas.List.{drop_all}
use Rattle.base_trait.specs.Identity.{same_list}

module _ {A : Type 0} (eq : A → A → Bool) where
  -- lists of two lengths differ
  pub same_not : (xs ys : List A) → (length xs ≡ length ys → ⊥) → false ≡ same_list eq xs ys
  same_not [] [] n = absurd (n refl)
  same_not [] (y ∷ ys) n = refl
  same_not (x ∷ xs) [] n = refl
  same_not (x ∷ xs) (y ∷ ys) n = by_test (eq x y) (same_not xs ys (λ e. n (ap (λ k. suc k) e)))
    where
      by_test : (b : Bool) → false ≡ same_list eq xs ys → false ≡ b && same_list eq xs ys
      by_test true later = later
      by_test false later = refl

  module _ (xs ys : List A) (i : ℕ) (d e : A) (whole : Bool) (left : i < length xs) (right : i < length ys) where
    here_is : same_list eq (drop i xs) (drop i ys) ≡ eq (get_or xs i d) (get_or ys i e) && same_list eq (drop (suc i) xs) (drop (suc i) ys)
    here_is = ap (λ l. same_list eq l (drop i ys)) (drop-cons xs i d left) ∙ ap (λ l. same_list eq (get_or xs i d ∷ drop (suc i) xs) l) (drop-cons ys i e right)

    pub same_on : eq (get_or xs i d) (get_or ys i e) ≡ true → same_list eq (drop i xs) (drop i ys) ≡ whole → same_list eq (drop (i + 1) xs) (drop (i + 1) ys) ≡ whole
    same_on t h =
        let next : i + 1 ≡ suc i = omega arith in
        ap (λ n. same_list eq (drop n xs) (drop n ys)) next ∙ sym (ap (λ b. b && same_list eq (drop (suc i) xs) (drop (suc i) ys)) t) ∙ sym here_is ∙ h

    pub same_off : eq (get_or xs i d) (get_or ys i e) ≡ false → same_list eq (drop i xs) (drop i ys) ≡ whole → false ≡ whole
    same_off t h = sym (ap (λ b. b && same_list eq (drop (suc i) xs) (drop (suc i) ys)) t) ∙ sym here_is ∙ h

  pub same_end : (xs ys : List A) (i : ℕ) (whole : Bool) → length xs ≤ i → length ys ≤ i → same_list eq (drop i xs) (drop i ys) ≡ whole → true ≡ whole
  same_end xs ys i whole l r h = sym (ap (λ k. same_list eq k (drop i ys)) (drop_all i xs l) ∙ ap (λ k. same_list eq [] k) (drop_all i ys r)) ∙ h

  -- what is told of two items that stand there
  pub told_off : (x y p q : A) → x ≡ p → y ≡ q → true ≡ not (eq x y) → eq p q ≡ false
  told_off x y p q a b h = sym (ap (λ t. eq t y) a ∙ ap (λ t. eq p t) b) ∙ by_test (eq x y) h
    where
      by_test : (t : Bool) → true ≡ not t → t ≡ false
      by_test true h = cc
      by_test false h = refl

  pub told_on : (x y p q : A) → x ≡ p → y ≡ q → false ≡ not (eq x y) → eq p q ≡ true
  told_on x y p q a b h = sym (ap (λ t. eq t y) a ∙ ap (λ t. eq p t) b) ∙ by_test (eq x y) h
    where
      by_test : (t : Bool) → false ≡ not t → t ≡ true
      by_test true h = refl
      by_test false h = cc

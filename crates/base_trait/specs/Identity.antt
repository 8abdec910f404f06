-- Tests of equality that tell two things apart wherever they differ.
use Rattle.std.specs.Prelude.{◌≡◌, Bool, true, false, ◌&&◌, List, [], ◌∷◌, IsTrue, refl}
use Rattle.std.proofs.Common.{ap, sym, ◌∙◌, subst}
use Rattle.std.specs.Cmp.{IsEquivalence, IsPartialEquivalence, partial_equiv_from_equiv}

-- what the test takes for equal is the same
abbrev pub IsIdentity : {A : Type 0} → (A → A → Bool) → Type 0
IsIdentity {A} eq = (x y : A) → IsTrue (eq x y) → x ≡ y

-- each thing is equal to itself
abbrev pub IsReflexive : {A : Type 0} → (A → A → Bool) → Type 0
IsReflexive {A} eq = (x : A) → IsTrue (eq x x)

-- lists are equal item by item
abbrev pub same_list : {A : Type 0} → (A → A → Bool) → List A → List A → Bool
same_list eq [] [] = true
same_list eq (x ∷ xs) (y ∷ ys) = eq x y && same_list eq xs ys
same_list eq _ _ = false

module _ {A : Type 0} (eq : A → A → Bool) where
  pub same_list_itself : IsReflexive eq → IsReflexive (same_list eq)
  same_list_itself same [] = refl
  same_list_itself same (x ∷ xs) = both (eq x x) (same x) (same_list_itself same xs)
    where
      both : (b : Bool) → IsTrue b → IsTrue (same_list eq xs xs) → IsTrue (b && same_list eq xs xs)
      both true h k = k
      both false h k = cc

  pub same_list_is : IsIdentity eq → IsIdentity (same_list eq)
  same_list_is is [] [] h = refl
  same_list_is is [] (y ∷ ys) h = cc
  same_list_is is (x ∷ xs) [] h = cc
  same_list_is is (x ∷ xs) (y ∷ ys) h = at_test (eq x y) refl h (same_list_is is xs ys)
    where
      at_test : (b : Bool) → b ≡ eq x y → IsTrue (b && same_list eq xs ys) → (IsTrue (same_list eq xs ys) → xs ≡ ys) → x ∷ xs ≡ y ∷ ys
      at_test true e k f = ap (λ z. z ∷ xs) (is x y (sym e)) ∙ ap (λ zs. y ∷ zs) (f k)
      at_test false e k f = cc

  -- such a test is an equivalence
  pub identity_equiv : IsReflexive eq → IsIdentity eq → IsEquivalence eq
  identity_equiv same is = record { refl = same; symm = λ x y. symm_at x y (eq x y) (eq y x) refl refl; congr = λ x y z e. ap (λ w. eq w z) (is x y e) }
    where
      symm_at : (x y : A) (p q : Bool) → p ≡ eq x y → q ≡ eq y x → p ≡ q
      symm_at x y true true e f = refl
      symm_at x y false false e f = refl
      symm_at x y true false e f = let h = is x y (sym e) in sym (f ∙ subst (λ z. eq z x ≡ true) h (same x))
      symm_at x y false true e f = let h = is y x (sym f) in e ∙ subst (λ z. eq z y ≡ true) h (same y)

  pub identity_partial : IsReflexive eq → IsIdentity eq → IsPartialEquivalence eq
  identity_partial same is = partial_equiv_from_equiv (identity_equiv same is)

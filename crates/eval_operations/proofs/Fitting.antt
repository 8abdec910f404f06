-- Values that fit, in lists and as fields.
use Rattle.std.proofs.Common.{◌≡◌, ℕ, zero, suc, ◌<◌, Bool, true, false, cond, List, [], ◌∷◌, Some, None, map, refl, sym, ap, subst, ◌∙◌, arith}
use Rattle.std.specs.Prelude.{All, nat_lt, slice_get}
use Rattle.std.proofs.lemmas.Bool.Decides.{nat_tests}
use Rattle.std.proofs.lemmas.List.Elements.{All-get_or, All-head, All-tail}
use Rattle.std.proofs.lemmas.Option.{get_or_from_slice_get, slice_get_within}
use Rattle.std.proofs.lemmas.Bool.{lt-ltb as below}
use Rattle.base_trait.specs.Algebra.{Algebra}
use Rattle.spec_ir.specs.Environment.{Environment}
use Rattle.abstract_value_laws.specs.Abs.{Abs, Parts, made, no_case, parts}
use Rattle.abstract_value_laws.specs.Fits.{CasesFit, Fits, PartsFit}
use Rattle.abstract_value_laws.specs.OfValues.{absent_onto, case_count, one_case}
use Rattle.abstract_value.specs.View.{abs}
use Rattle.abstract_value.specs.declared.value.AbstractValue.{AbstractValue}
use Rattle.abstract_semantics.specs.Steps.{made_of}

-- an item of a list, each of which is so
pub all_at : {A : Type 0} (P : A → Type 0) (xs : List A) (i : ℕ) (x : A) → All P xs → slice_get xs i ≡ Some x → P x
all_at P xs i x h e = subst P (get_or_from_slice_get xs i x x e) (All-get_or P xs i x (slice_get_within xs i x e) h)

module _ {W N C : Type 0} (B : Algebra W N C) (c : C) (cap : ℕ) where
  -- ---- fields
  pub parts_fit : {X K : Type 0} (xs : List (AbstractValue X W N K)) → All (λ v. Fits B c cap (abs v)) xs → PartsFit B c cap (parts (map abs xs))
  parts_fit [] h = tt
  parts_fit (x ∷ xs) h = (All-head (λ v. Fits B c cap (abs v)) x xs h, parts_fit xs (All-tail (λ v. Fits B c cap (abs v)) x xs h))

  absent_fit : (n : ℕ) → CasesFit B c cap (absent_onto n no_case)
  absent_fit zero = tt
  absent_fit (suc n) = absent_fit n

  pub one_fits : (n k : ℕ) (xs : Parts W N) → PartsFit B c cap xs → CasesFit B c cap (one_case n k xs)
  one_fits zero k xs h = tt
  one_fits (suc n) zero xs h = (h, absent_fit n)
  one_fits (suc n) (suc k) xs h = one_fits n k xs h

-- ---- a constructor value of which one is present

module _ {W N : Type 0} (env : Environment) where
  pub made_is : (d k n : ℕ) (xs : List (Abs W N)) (z : Abs W N) → n ≡ case_count env d → k < n → z ≡ made d (one_case n k (parts xs)) → Some z ≡ made_of env d k xs
  made_is d k n xs z e h s =
      ap (λ y. Some y) (s ∙ ap (λ m. made d (one_case m k (parts xs))) e)
      ∙ sym (ap (λ b. cond b (Some (made d (one_case (case_count env d) k (parts xs)))) None) (below k (case_count env d) (subst (λ m. k < m) e h)))

  pub none_made : (d k n : ℕ) (xs : List (Abs W N)) → n ≡ case_count env d → (k < n → ⊥) → None ≡ made_of env d k xs
  none_made d k n xs e h = sym (ap (λ b. cond b (Some (made d (one_case (case_count env d) k (parts xs)))) None) (past (nat_lt k (case_count env d)) refl))
    where
      past : (b : Bool) → nat_lt k (case_count env d) ≡ b → b ≡ false
      past false t = refl
      past true t = absurd (h (subst (λ m. k < m) (sym e) (grind (arith, nat_tests))))

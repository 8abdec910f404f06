-- The counter of a state value.
use Rattle.std.proofs.Common.{◌≡◌, ℕ, List, [], ◌∷◌, Option, Some, None, arith, get_or, length, map, slice_get, refl, sym, ap, subst, ◌∙◌}
use Rattle.base_trait.specs.Algebra.{Algebra}
use Rattle.abstract_value_laws.specs.Abs.{Abs, Cases, flag, word, made, map as mapped, no_case, absent, present, no_part, part, cases, parts}
use Rattle.abstract_value.specs.View.{abs, case_of}
use Rattle.abstract_value.specs.declared.value.AbstractValue.{AbstractValue}
use Rattle.domain_laws.specs.States.{StateType}
use Rattle.domain_laws.specs.Values.{IsStateValue}
use Rattle.analysis_transfer_laws.specs.Transfer.{counter_of}
use Rattle.analysis_transfer.specs.Counters.{first_word, word_in, word_of}

module _ {W N C : Type 0} (B : Algebra W N C) (c : C) (cap : ℕ) (t : StateType) where
  -- it has 32 bits, and fits
  pub counter_fits : (y : Abs W N) (counter : ℕ × W) → IsStateValue B c cap t y → counter_of y ≡ Some counter → (counter.0 ≡ 32) × B.words.fits c 32 counter.1
  counter_fits (made ty (present (part (word w x) xs) no_case)) counter is e =
      let width : counter.0 ≡ w = cc in
      let same : counter.1 ≡ x = cc in
      let bits : w ≡ 32 = is.0.1 in
      (width ∙ bits, subst (λ z. B.words.fits c 32 z) (sym same) (subst (λ n. B.words.fits c n x) bits is.1.0.0.1))
  counter_fits _ counter is e = absurd cc

-- ---- part by part
pub counter_in : {W N : Type 0} (t : ℕ) (cs : Cases W N) → counter_of (made t cs) ≡ word_in cs
counter_in t no_case = refl
counter_in t (absent cs) = refl
counter_in t (present no_part no_case) = refl
counter_in t (present (part (word w x) xs) no_case) = refl
counter_in t (present (part (flag b) xs) no_case) = refl
counter_in t (present (part (made ty ds) xs) no_case) = refl
counter_in t (present (part (mapped m x) xs) no_case) = refl
counter_in t (present no_part (absent cs)) = refl
counter_in t (present (part (word w x) xs) (absent cs)) = refl
counter_in t (present (part (flag b) xs) (absent cs)) = refl
counter_in t (present (part (made ty ds) xs) (absent cs)) = refl
counter_in t (present (part (mapped m x) xs) (absent cs)) = refl
counter_in t (present no_part (present ys cs)) = refl
counter_in t (present (part (word w x) xs) (present ys cs)) = refl
counter_in t (present (part (flag b) xs) (present ys cs)) = refl
counter_in t (present (part (made ty ds) xs) (present ys cs)) = refl
counter_in t (present (part (mapped m x) xs) (present ys cs)) = refl

module _ {X W N C : Type 0} where
  pub first_there : (xs : List (AbstractValue X W N C)) (v : AbstractValue X W N C) → slice_get xs 0 ≡ Some v → first_word (parts (map abs xs)) ≡ word_of (abs v)
  first_there [] v e = absurd cc
  first_there (x ∷ xs) v e = ap (λ y. word_of (abs y)) (let same : x ≡ v = cc in same)

  pub none_there : (xs : List (AbstractValue X W N C)) → slice_get xs 0 ≡ None → first_word (parts (map abs xs)) ≡ None
  none_there [] e = refl
  none_there (x ∷ xs) e = absurd cc

  -- of several constructors or none there is no word
  pub not_one : (cs : List (Option (List (AbstractValue X W N C)))) → (length cs ≡ 1 → ⊥) → word_in (cases (map case_of cs)) ≡ None
  not_one [] h = refl
  not_one (None ∷ cs) h = refl
  not_one (Some f ∷ []) h = absurd (h refl)
  not_one (Some f ∷ None ∷ cs) h = refl
  not_one (Some f ∷ Some g ∷ cs) h = refl

  -- the one constructor, present and missing
  pub one_is : (cs : List (Option (List (AbstractValue X W N C)))) (f : List (AbstractValue X W N C)) → length cs ≡ 1 → get_or cs 0 None ≡ Some f → first_word (parts (map abs f)) ≡ word_in (cases (map case_of cs))
  one_is [] f n e = absurd (omega (arith, n))
  one_is (y ∷ z ∷ cs) f n e = absurd (omega (arith, n))
  one_is (y ∷ []) f n e = ap (λ t. word_in (cases (case_of t ∷ []))) (sym e)

  pub none_is : (cs : List (Option (List (AbstractValue X W N C)))) → length cs ≡ 1 → get_or cs 0 None ≡ None → None ≡ word_in (cases (map case_of cs))
  none_is [] n e = absurd (omega (arith, n))
  none_is (y ∷ z ∷ cs) n e = absurd (omega (arith, n))
  none_is (y ∷ []) n e = ap (λ t. word_in (cases (case_of t ∷ []))) (sym e)

-- The measure of a recursion falls from a list to each of its items, and from constructors to the fields of each.
use Rattle.std.proofs.Common.{◌≡◌, ℕ, zero, suc, ◌+◌, ◌*◌, ◌<◌, ◌≤◌, Option, Some, None, List, [], ◌∷◌, map, length, get_or, sym, ap, subst, ◌∙◌, arith}
use native.Mathlib.Nat.{mul-le-mul_left}
use denote.Param.Weighed.{at_most, most}
use Rattle.spec_match_compiler.proofs.Loops.{drop_here}
use Rattle.abstract_value_laws.specs.Abs.{cases, parts}
use Rattle.abstract_value.specs.Constructors.{spread}
use Rattle.abstract_value.specs.View.{abs, case_of, cases_of}
use Rattle.abstract_value.specs.declared.constructors.Constructors.{Constructors}
use Rattle.abstract_value.specs.declared.value.AbstractValue.{AbstractValue}
use Rattle.abstract_value.proofs.Places.{at_itself}
use Rattle.abstract_value.proofs.Weights.{case_weighs, cases_weight, part_weighs, parts_weight, weight}

module _ {A : Type 0} (size : A → ℕ) (xs : List A) (i : ℕ) (x : A) (here : x ≡ get_or xs i x) (l : i < length xs) (k t : ℕ) where
  no_more : k * size x ≤ k * most size xs
  no_more = mul-le-mul_left k (subst (λ y. size y ≤ most size xs) (sym here) (at_most size xs i x l))

  pub part_falls : k * most size xs + 1 ≡ t → k * size x < t
  part_falls e = let h = no_more in omega (arith, h, e)

-- what is there is within
some_there : {A : Type 0} (xs : List (Option A)) (k : ℕ) (x : A) → get_or xs k None ≡ Some x → k < length xs
some_there [] k x e = absurd cc
some_there (y ∷ xs) zero x e = omega arith
some_there (y ∷ xs) (suc k) x e = let h = some_there xs k x e in omega (arith, h)

module _ {X W N C : Type 0} where
  -- by the weights of plain values
  pub value_falls : (xs : List (AbstractValue X W N C)) (i : ℕ) (x : AbstractValue X W N C) → x ≡ get_or xs i x → i < length xs → (t : ℕ) → 8 * parts_weight (parts (map abs xs)) + 1 ≡ t → 8 * weight (abs x) < t
  value_falls xs i x p l t e = let h = part_weighs (λ v. abs v) xs i x (drop_here xs i x p l) in omega (arith, h, e)

  pub fields_fall : (cs : Constructors (AbstractValue X W N C)) (k : ℕ) (f : List (AbstractValue X W N C)) → get_or (spread cs) k None ≡ Some f → (a t : ℕ) → 1 < a → 8 * cases_weight (cases_of cs) + a ≡ t → 8 * parts_weight (parts (map abs f)) + 1 < t
  fields_fall cs k f e a t l d =
      let xs = spread cs in
      let within = some_there xs k f e in
      let here : Some f ≡ get_or xs k (Some f) = sym e ∙ at_itself xs k None within ∙ ap (get_or xs k) e in
      let h = case_weighs (λ v. case_of v) xs k (Some f) (drop_here xs k (Some f) here within) in
      omega (arith, h, l, d)

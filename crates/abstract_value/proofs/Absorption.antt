-- Absorption of lists of parts or cases, item by item.
use Rattle.std.proofs.Common.{◌≡◌, false, Option, Some, None, List, map, refl}
use Rattle.std.specs.Prelude.{◌&&◌}
use Rattle.base_trait.specs.Algebra.{Algebra}
use Rattle.abstract_value_laws.specs.Abs.{Cases, Parts, case_onto, cases, no_case, parts}
use Rattle.abstract_value_laws.specs.Calls.{absorbs_case, absorbs_cases, absorbs_of, absorbs_parts}
use Rattle.abstract_value.specs.View.{abs, case_of}
use Rattle.abstract_value.specs.declared.value.AbstractValue.{AbstractValue}
use Rattle.abstract_value.proofs.Alone.{TestsEach}
use Rattle.abstract_value.proofs.Both.{IsBoth}

module _ {W N C : Type 0} (B : Algebra W N C) (c : C) where
  case_step : (x y : Option (Parts W N)) (cs ds : Cases W N) → absorbs_cases B c (case_onto x cs) (case_onto y ds) ≡ (absorbs_case B c x y && absorbs_cases B c cs ds)
  case_step None None cs ds = refl
  case_step None (Some ys) cs ds = refl
  case_step (Some xs) None cs ds = refl
  case_step (Some xs) (Some ys) cs ds = refl

  none_left : (y : Option (Parts W N)) (ds : Cases W N) → absorbs_cases B c no_case (case_onto y ds) ≡ false
  none_left None ds = refl
  none_left (Some ys) ds = refl

  none_right : (x : Option (Parts W N)) (cs : Cases W N) → absorbs_cases B c (case_onto x cs) no_case ≡ false
  none_right None cs = refl
  none_right (Some xs) cs = refl

  module _ {X : Type 0} where
    pub cases_both : IsBoth {A = Option (List (AbstractValue X W N C))} {D = Option (List (AbstractValue X W N C))} (λ x y. absorbs_case B c (case_of x) (case_of y)) (λ xs ys. absorbs_cases B c (cases (map case_of xs)) (cases (map case_of ys)))
    cases_both = record {
      end = refl;
      step = λ x y xs ys. case_step (case_of x) (case_of y) (cases (map case_of xs)) (cases (map case_of ys));
      left = λ y ys. none_left (case_of y) (cases (map case_of ys));
      right = λ x xs. none_right (case_of x) (cases (map case_of xs));
    }

    pub parts_both : IsBoth {A = AbstractValue X W N C} {D = AbstractValue X W N C} (λ x y. absorbs_of B c (abs x) (abs y)) (λ xs ys. absorbs_parts B c (parts (map abs xs)) (parts (map abs ys)))
    parts_both = record { end = refl; step = λ x y xs ys. refl; left = λ y ys. refl; right = λ x xs. refl }

  pub each : TestsEach (absorbs_parts B c) (absorbs_cases B c)
  each = record { end = refl; both_absent = λ cs ds. refl; both_present = λ xs ys cs ds. refl }

-- Equality of lists of parts or cases, item by item.
use Rattle.std.proofs.Common.{◌≡◌, Bool, false, Option, Some, None, List, map, refl}
use Rattle.std.specs.Prelude.{◌&&◌}
use Rattle.abstract_value_laws.specs.Abs.{Cases, Parts, case_onto, cases, no_case, parts}
use Rattle.abstract_value.specs.Same.{same_case, same_cases, same_parts, same_value}
use Rattle.abstract_value.specs.View.{abs, case_of}
use Rattle.abstract_value.specs.declared.value.AbstractValue.{AbstractValue}
use Rattle.abstract_value.proofs.Alone.{TestsEach}
use Rattle.abstract_value.proofs.Both.{IsBoth}

module _ {W N : Type 0} (words : W → W → Bool) (notes : N → N → Bool) where
  case_step : (x y : Option (Parts W N)) (cs ds : Cases W N) → same_cases words notes (case_onto x cs) (case_onto y ds) ≡ (same_case words notes x y && same_cases words notes cs ds)
  case_step None None cs ds = refl
  case_step None (Some ys) cs ds = refl
  case_step (Some xs) None cs ds = refl
  case_step (Some xs) (Some ys) cs ds = refl

  none_left : (y : Option (Parts W N)) (ds : Cases W N) → same_cases words notes no_case (case_onto y ds) ≡ false
  none_left None ds = refl
  none_left (Some ys) ds = refl

  none_right : (x : Option (Parts W N)) (cs : Cases W N) → same_cases words notes (case_onto x cs) no_case ≡ false
  none_right None cs = refl
  none_right (Some xs) cs = refl

  module _ {X C : Type 0} where
    pub cases_both : IsBoth {A = Option (List (AbstractValue X W N C))} {D = Option (List (AbstractValue X W N C))} (λ x y. same_case words notes (case_of x) (case_of y)) (λ xs ys. same_cases words notes (cases (map case_of xs)) (cases (map case_of ys)))
    cases_both = record {
      end = refl;
      step = λ x y xs ys. case_step (case_of x) (case_of y) (cases (map case_of xs)) (cases (map case_of ys));
      left = λ y ys. none_left (case_of y) (cases (map case_of ys));
      right = λ x xs. none_right (case_of x) (cases (map case_of xs));
    }

    pub parts_both : IsBoth {A = AbstractValue X W N C} {D = AbstractValue X W N C} (λ x y. same_value words notes (abs x) (abs y)) (λ xs ys. same_parts words notes (parts (map abs xs)) (parts (map abs ys)))
    parts_both = record { end = refl; step = λ x y xs ys. refl; left = λ y ys. refl; right = λ x xs. refl }

  pub each : TestsEach (same_parts words notes) (same_cases words notes)
  each = record { end = refl; both_absent = λ cs ds. refl; both_present = λ xs ys cs ds. refl }

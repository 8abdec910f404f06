-- Types of lists of parts or cases, item by item.
use Rattle.std.proofs.Common.{◌≡◌, ℕ, zero, suc, ◌<◌, Bool, true, false, Option, Some, None, List, [], ◌∷◌, map, length, get_or, refl, sym, ap, ◌∙◌, arith}
use Rattle.std.specs.Prelude.{◌&&◌}
use Rattle.spec_ir.specs.declared.ty.Ty.{Ty}
use Rattle.spec_ir.specs.Environment.{Case, Environment, field_types}
use Rattle.abstract_value_laws.specs.Abs.{Cases, Parts, case_onto, cases, no_case, parts}
use Rattle.abstract_value_laws.specs.OfValues.{absent_onto, one_case}
use Rattle.abstract_value_laws.specs.Types.{has_case, has_type, have_cases, have_types}
use Rattle.abstract_value.specs.Constructors.{IsOnly}
use Rattle.abstract_value.specs.View.{abs, case_of}
use Rattle.abstract_value.specs.declared.value.AbstractValue.{AbstractValue}
use Rattle.abstract_value.proofs.Alone.{alone_seen, and_true}
use Rattle.abstract_value.proofs.Both.{IsBoth}

none_has : (W N : Type 0) (env : Environment) {D : Type 0} (seen : D → Case) (ds : List D) (n : ℕ) → n ≡ length ds → have_cases env (absent_onto {W = W} {N = N} n no_case) (map seen ds) ≡ true
none_has W N env seen [] zero e = refl
none_has W N env seen [] (suc n) e = absurd (omega (arith, e))
none_has W N env seen (d ∷ ds) zero e = absurd (omega (arith, e))
none_has W N env seen (d ∷ ds) (suc n) e = none_has W N env seen ds n (omega (arith, e))

module _ {W N : Type 0} (env : Environment) where
  case_step : (x : Option (Parts W N)) (d : Case) (cs : Cases W N) (ds : List Case) → have_cases env (case_onto x cs) (d ∷ ds) ≡ (has_case env x d && have_cases env cs ds)
  case_step None d cs ds = refl
  case_step (Some xs) d cs ds = refl

  none_right : (x : Option (Parts W N)) (cs : Cases W N) → have_cases env (case_onto x cs) [] ≡ false
  none_right None cs = refl
  none_right (Some xs) cs = refl

  -- where one constructor is present
  one_has : {D : Type 0} (seen : D → Case) (n k : ℕ) (ds : List D) (d : D) (xs : Parts W N) → k < n → n ≡ length ds → d ≡ get_or ds k d → have_cases env (one_case n k xs) (map seen ds) ≡ have_types env xs (field_types (seen d))
  one_has seen zero k ds d xs l e h = absurd (omega (arith, l))
  one_has seen (suc n) k [] d xs l e h = absurd (omega (arith, e))
  one_has seen (suc n) zero (z ∷ ds) d xs l e h = ap (λ b. have_types env xs (field_types (seen z)) && b) (none_has W N env seen ds n (omega (arith, e))) ∙ and_true (have_types env xs (field_types (seen z))) ∙ ap (λ y. have_types env xs (field_types (seen y))) (sym h)
  one_has seen (suc n) (suc k) (z ∷ ds) d xs l e h = one_has seen n k ds d xs (omega (arith, l)) (omega (arith, e)) h

  module _ {X C D : Type 0} where
    -- the constructors by a view of declared ones
    pub cases_both : (seen : D → Case) → IsBoth {A = Option (List (AbstractValue X W N C))} {D = D} (λ x d. has_case env (case_of x) (seen d)) (λ xs ds. have_cases env (cases (map case_of xs)) (map seen ds))
    cases_both seen = record {
      end = refl;
      step = λ x d xs ds. case_step (case_of x) (seen d) (cases (map case_of xs)) (map seen ds);
      left = λ d ds. refl;
      right = λ x xs. none_right (case_of x) (cases (map case_of xs));
    }

    -- the fields by the types of declared ones
    pub parts_both : (seen : D → Ty) → IsBoth {A = AbstractValue X W N C} {D = D} (λ x d. has_type env (abs x) (seen d)) (λ xs ds. have_types env (parts (map abs xs)) (map seen ds))
    parts_both seen = record { end = refl; step = λ x d xs ds. refl; left = λ d ds. refl; right = λ x xs. refl }

    -- the one constructor that is present alone
    pub alone_has : (seen : D → Case) (l : List (Option (List (AbstractValue X W N C)))) (k : ℕ) (f : List (AbstractValue X W N C)) (ds : List D) (d : D) → IsOnly l k f → length l ≡ length ds → d ≡ get_or ds k d
        → have_types env (parts (map abs f)) (field_types (seen d)) ≡ have_cases env (cases (map case_of l)) (map seen ds)
    alone_has seen l k f ds d o e h = sym (ap (λ z. have_cases env z (map seen ds)) (alone_seen l k f o) ∙ one_has seen (length l) k ds d (parts (map abs f)) o.within e h)

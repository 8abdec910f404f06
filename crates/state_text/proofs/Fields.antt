-- The end of fields and of values.
use Rattle.std.proofs.Common.{◌≡◌, ◌≤◌, ℕ, List, [], ◌∷◌, length, drop, map, min, refl, inl, inr, arith}
use Rattle.std.proofs.Math.ListN.{drop_of_length-le}
use Rattle.std.proofs.lemmas.Bool.{cases_lt}
use Rattle.spec_ir.specs.Specification.{Spec}
use Rattle.semantics_values.specs.Views.{val}
use Rattle.semantics_values.specs.declared.value.Value.{Value}
use Rattle.state_cell_text.specs.Places.{Field}
use Rattle.state_text.specs.Writing.{field_lines}

no_values : (spec : Spec) (fields : List Field) → field_lines spec fields [] ≡ []
no_values spec [] = refl
no_values spec (f ∷ fields) = refl

-- behind the last field or the last value there is no line
pub fields_done : (spec : Spec) (fields : List Field) (parts : List Value) (i : ℕ) → min (length fields) (length parts) ≤ i → field_lines spec (drop i fields) (map val (drop i parts)) ≡ []
fields_done spec fields parts i done = elim (cases_lt i (length fields)) [
  | inl below ↦
      let over : length parts ≤ i = omega arith in
      let none = drop_of_length-le parts over in
      rw none (no_values spec (drop i fields))
  | inr over ↦
      let none = drop_of_length-le fields over in
      rw none refl
]

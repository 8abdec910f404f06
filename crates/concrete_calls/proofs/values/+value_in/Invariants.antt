use Rattle.std.proofs.Common.{◌≡◌, ◌+◌, ◌*◌, drop, map, take}
use Rattle.semantics_values.specs.Views.{val}
use Rattle.abstract_value_laws.specs.Abs.{cases, parts}
use Rattle.abstract_value.specs.Constructors.{spread}
use Rattle.abstract_value.specs.View.{abs, case_of, cases_of}
use Rattle.abstract_value.proofs.Weights.{cases_weight, parts_weight, weight}
use Rattle.concrete_calls.specs.Values.{case_in, value_in}
use Rattle.concrete_calls.proofs.values.+value_in.Given as goal

abbrev pub invariant-case_in-loop-i : goal.invariant-case_in-loop-i
invariant-case_in-loop-i l = case_in l.ty 0 (cases_of l.constructors) ≡ case_in l.ty l.i (cases (map case_of (drop l.i (spread l.constructors))))

abbrev pub invariant-values_in-loop-field : goal.invariant-values_in-loop-field
invariant-values_in-loop-field l = map val l.out.items ≡ map (λ x. value_in (abs x)) (take l.field-index l.fields)

abbrev pub decreases-value_in : goal.decreases-value_in
decreases-value_in l = 8 * weight (abs l.x.now)

abbrev pub decreases-case_in : goal.decreases-case_in
decreases-case_in l = 8 * cases_weight (cases_of l.constructors.now) + 3

abbrev pub decreases-values_in : goal.decreases-values_in
decreases-values_in l = 8 * parts_weight (parts (map abs l.fields.now)) + 1

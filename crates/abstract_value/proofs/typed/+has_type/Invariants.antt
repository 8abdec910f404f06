use Rattle.std.proofs.Common.{◌≡◌, map, drop, length, ◌+◌, ◌*◌}
use Rattle.spec_ir.specs.Views as view
use Rattle.spec_ir.specs.Views.{specification}
use Rattle.semantics_values.specs.Types.{environment_of}
use Rattle.abstract_value_laws.specs.Abs.{cases, parts}
use Rattle.abstract_value_laws.specs.Types.{have_cases, have_types}
use Rattle.abstract_value.specs.Constructors.{spread}
use Rattle.abstract_value.specs.View.{abs, case_of, cases_of}
use Rattle.abstract_value.proofs.Weights.{cases_weight, parts_weight, weight}
use Rattle.abstract_value.proofs.typed.+has_type.Given as goal

abbrev pub invariant-has_each-loop-i : goal.invariant-has_each-loop-i
invariant-has_each-loop-i g l =
    let env = environment_of (specification l.spec) in
    record {
      lengths : length (spread l.values) ≡ length l.declared;
      whole : have_cases env (cases (map case_of (drop l.i (spread l.values)))) (map view.case_of (drop l.i l.declared)) ≡ have_cases env (cases_of l.values) (map view.case_of l.declared);
    }

abbrev pub invariant-have_types-loop-i : goal.invariant-have_types-loop-i
invariant-have_types-loop-i g l =
    let env = environment_of (specification l.spec) in
    record {
      lengths : length l.values ≡ length l.fields;
      whole : have_types env (parts (map abs (drop l.i l.values))) (map (λ f. f.1) (drop l.i l.fields)) ≡ have_types env (parts (map abs l.values)) (map (λ f. f.1) l.fields);
    }

abbrev pub decreases-has_type : goal.decreases-has_type
decreases-has_type g l = 8 * weight (abs l.v.now)

abbrev pub decreases-is_data : goal.decreases-is_data
decreases-is_data g l = 8 * cases_weight (cases_of l.values.now) + 6

abbrev pub decreases-have_cases : goal.decreases-have_cases
decreases-have_cases g l = 8 * cases_weight (cases_of l.values.now) + 5

abbrev pub decreases-has_each : goal.decreases-has_each
decreases-has_each g l = 8 * cases_weight (cases_of l.values.now) + 4

abbrev pub decreases-has_case : goal.decreases-has_case
decreases-has_case g l = 8 * cases_weight (cases_of l.values.now) + 3

abbrev pub decreases-have_types : goal.decreases-have_types
decreases-have_types g l = 8 * parts_weight (parts (map abs l.values.now)) + 1

use Rattle.std.proofs.Common.{◌≡◌, map, drop, ◌≤◌, length}
use Rattle.spec_ir.specs.Views.{specification}
use Rattle.semantics_values.specs.Types.{environment_of, have_types}
use Rattle.semantics_values.specs.Values.{vals}
use Rattle.semantics_values.specs.Views.{val}
use Rattle.semantics_values.proofs.types.+has_type.Given as goal

abbrev pub invariant-have_types-loop-i : goal.invariant-have_types-loop-i
invariant-have_types-loop-i l = record {
  whole : have_types (environment_of (specification l.spec)) (vals (map val l.parts)) (map (λ f. f.1) l.fields) ≡ have_types (environment_of (specification l.spec)) (vals (map val (drop l.i l.parts))) (map (λ f. f.1) (drop l.i l.fields));
  within : l.i ≤ length l.fields;
}

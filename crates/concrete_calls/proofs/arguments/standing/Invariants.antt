use Rattle.std.proofs.Common.{◌≡◌, map, take}
use Rattle.base_concrete.specs.Meaning.{concrete}
use Rattle.spec_ir.specs.Views.{specification}
use Rattle.semantics_values.specs.Types.{environment_of}
use Rattle.semantics_values.specs.Views.{val}
use Rattle.abstract_value_laws.specs.OfValues.{of_value}
use Rattle.abstract_value.specs.View.{abs}
use Rattle.concrete_calls.specs.Laws.{room}
use Rattle.concrete_calls.proofs.arguments.standing.Given as goal

abbrev pub invariant-loop-value : goal.invariant-loop-value
invariant-loop-value l = map abs l.out.items ≡ map (of_value concrete tt room (environment_of (specification l.spec))) (map val (take l.value-index l.values))

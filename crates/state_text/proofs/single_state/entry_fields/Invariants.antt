use Rattle.std.proofs.Common.{◌≡◌, ◌++◌, drop, map}
use Rattle.spec_ir.specs.Views.{specification}
use Rattle.semantics_values.specs.Types.{environment_of}
use Rattle.semantics_values.specs.Views.{val}
use Rattle.semantics.specs.Entries.{entry_fields}
use Rattle.state_text.specs.OneState.{types_behind}
use Rattle.state_text.proofs.single_state.entry_fields.Given as goal

abbrev pub invariant-loop-i : goal.invariant-loop-i
invariant-loop-i l = entry_fields (environment_of (specification l.spec)) l.lines 1 (types_behind l.fields) ≡ map val l.out.items ++ entry_fields (environment_of (specification l.spec)) l.lines l.i (map (λ f. f.1) (drop l.i l.fields))

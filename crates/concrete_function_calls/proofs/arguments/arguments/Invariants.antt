use Rattle.std.proofs.Common.{◌≡◌, ◌++◌, drop, length, map}
use Rattle.std.specs.Option.{option_map}
use Rattle.semantics_values.specs.Views.{val}
use Rattle.concrete_function_calls.specs.Arguments.{arguments_in, borrowed}
use Rattle.concrete_function_calls.proofs.arguments.arguments.Given as goal

-- the arguments before, and then those of the types and texts that are left
abbrev pub invariant-loop-i : goal.invariant-loop-i
invariant-loop-i l = record {
  as_many : length l.types ≡ length l.texts;
  so_far : arguments_in l.types (borrowed l.texts) ≡ option_map (λ rest. map val l.args.items ++ rest) (arguments_in (drop l.i l.types) (drop l.i (borrowed l.texts)));
}

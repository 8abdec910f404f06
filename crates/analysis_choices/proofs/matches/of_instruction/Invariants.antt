use Rattle.std.proofs.Common.{◌≡◌, ◌++◌, drop, map}
use Rattle.semantics_values.specs.Views.{val}
use Rattle.spec_match_compiler.specs.Views.{bound}
use Rattle.analysis_choices.specs.Matches.{in_instruction}
use Rattle.analysis_choices.proofs.matches.of_instruction.Given as goal

abbrev pub invariant-loop-bind : goal.invariant-loop-bind
invariant-loop-bind l = l.out.items ++ map (λ b. in_instruction (map val l.parts) b.1) (map bound (drop l.bind-index l.binds)) ≡ map (λ b. in_instruction (map val l.parts) b.1) (map bound l.binds)

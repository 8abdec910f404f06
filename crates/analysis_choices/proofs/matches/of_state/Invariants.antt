use Rattle.std.proofs.Common.{◌≡◌, ◌++◌, drop, map}
use Rattle.spec_match_compiler.specs.Views.{bound}
use Rattle.analysis_choices.specs.Matches.{in_state}
use Rattle.analysis_choices.proofs.matches.of_state.Given as goal

abbrev pub invariant-loop-bind : goal.invariant-loop-bind
invariant-loop-bind l = l.out.items ++ map (λ b. in_state b.1) (map bound (drop l.bind-index l.binds)) ≡ map (λ b. in_state b.1) (map bound l.binds)

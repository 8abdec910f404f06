use Rattle.std.proofs.Common.{◌≡◌, map, take}
use Rattle.spec_match_compiler.specs.Views.{pat, knowledge}
use Rattle.spec_match_compiler.specs.Rule.{example}
use Rattle.spec_match_compiler.proofs.example.+example.Given as goal

abbrev pub invariant-examples-loop-field : goal.invariant-examples-loop-field
invariant-examples-loop-field l = map pat l.out.items ≡ map example (map knowledge (take l.field-index l.fields))

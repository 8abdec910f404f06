use Rattle.std.proofs.Common.{◌≡◌, ◌++◌, map, drop}
use Rattle.spec_match_compiler.specs.Views.{knowledge}
use Rattle.spec_match_compiler.proofs.put.+copy.Given as goal

abbrev pub invariant-copies-loop-part : goal.invariant-copies-loop-part
invariant-copies-loop-part l = map knowledge l.parts ≡ map knowledge l.out.items ++ map knowledge (drop l.part-index l.parts)

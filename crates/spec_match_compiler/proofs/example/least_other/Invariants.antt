use Rattle.std.proofs.Common.{◌≡◌, ◌-◌, length}
use Rattle.spec_match_compiler.specs.Rule.{least_from}
use Rattle.spec_match_compiler.proofs.example.least_other.Given as goal

abbrev pub invariant-loop-n : goal.invariant-loop-n
invariant-loop-n l = least_from (length l.tested - l.n-counter) l.n-counter l.tested ≡ least_from (length l.tested) 0 l.tested

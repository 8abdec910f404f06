use Rattle.std.proofs.Common.{◌≡◌, ◌==◌, drop}
use Rattle.std.specs.List.{list_any}
use Rattle.spec_declarations.proofs.state_machine.has.Given as goal

abbrev pub invariant-loop-k : goal.invariant-loop-k
invariant-loop-k l = list_any (λ k. k == l.n) l.numbers ≡ list_any (λ k. k == l.n) (drop l.k-index l.numbers)

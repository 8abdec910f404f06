use Rattle.std.proofs.Common.{◌≡◌, ◌++◌, drop}
use Rattle.analysis_transfer.proofs.targets.addresses.Given as goal

abbrev pub invariant-loop-number : goal.invariant-loop-number
invariant-loop-number l = l.out.items ++ drop l.number-index l.numbers ≡ l.numbers

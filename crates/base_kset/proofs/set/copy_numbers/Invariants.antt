use Rattle.std.proofs.Common.{◌≡◌, take}
use Rattle.base_kset.proofs.set.copy_numbers.Given as goal

abbrev pub invariant-loop-x : goal.invariant-loop-x
invariant-loop-x g l = l.items.items ≡ take l.x-index l.numbers

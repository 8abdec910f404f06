use Rattle.std.proofs.Common.{◌≡◌, drop}
use Rattle.base_kset.specs.Sets.{has}
use Rattle.base_kset.proofs.reading.has.Given as goal

abbrev pub invariant-loop-x : goal.invariant-loop-x
invariant-loop-x l = has l.numbers l.n ≡ has (drop l.x-index l.numbers) l.n

use Rattle.std.proofs.Common.{◌≡◌, drop}
use Rattle.std.specs.List.{list_all}
use Rattle.base_kset.specs.Sets.{has}
use Rattle.base_kset.proofs.reading.has_all.Given as goal

abbrev pub invariant-loop-x : goal.invariant-loop-x
invariant-loop-x l = list_all (has l.numbers) l.others ≡ list_all (has l.numbers) (drop l.x-index l.others)

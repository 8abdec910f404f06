use Rattle.std.proofs.Common.{◌≡◌, take, drop, ◌++◌}
use Rattle.base_kset.specs.Sets.{placed}
use Rattle.base_kset.proofs.set.place_of.Given as goal

abbrev pub invariant-loop-i : goal.invariant-loop-i
invariant-loop-i l = placed l.x l.items ≡ take l.i l.items ++ placed l.x (drop l.i l.items)

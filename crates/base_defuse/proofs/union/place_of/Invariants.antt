use Rattle.std.proofs.Common.{◌≡◌, take, drop, ◌++◌}
use Rattle.base_defuse.specs.Notes.{placed}
use Rattle.base_defuse.proofs.union.place_of.Given as goal

abbrev pub invariant-loop-i : goal.invariant-loop-i
invariant-loop-i l = placed l.stamp l.items ≡ take l.i l.items ++ placed l.stamp (drop l.i l.items)

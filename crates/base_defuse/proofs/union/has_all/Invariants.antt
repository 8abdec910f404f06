use Rattle.std.proofs.Common.{◌≡◌, drop}
use Rattle.base_defuse.specs.Notes.{has_all}
use Rattle.base_defuse.proofs.union.has_all.Given as goal

abbrev pub invariant-loop-x : goal.invariant-loop-x
invariant-loop-x l = has_all l.items l.others ≡ has_all l.items (drop l.x-index l.others)

use Rattle.std.proofs.Common.{◌≡◌, drop}
use Rattle.base_defuse.specs.Notes.{union}
use Rattle.base_defuse.proofs.union.union_of.Given as goal

abbrev pub invariant-loop-y : goal.invariant-loop-y
invariant-loop-y l = union l.xs l.ys ≡ union l.out.items (drop l.y-index l.ys)

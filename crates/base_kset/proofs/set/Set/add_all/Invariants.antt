use Rattle.std.proofs.Common.{◌≡◌, drop}
use Rattle.base_kset.specs.Sets.{add_all}
use Rattle.base_kset.proofs.set.Set.add_all.Given as goal

abbrev pub invariant-loop-x : goal.invariant-loop-x
invariant-loop-x g l = add_all g.row.K l.initial.self l.xs ≡ add_all g.row.K l.self (drop l.x-index l.xs)

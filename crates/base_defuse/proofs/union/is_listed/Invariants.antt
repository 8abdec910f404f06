use Rattle.std.proofs.Common.{◌≡◌, drop}
use Rattle.base_trait.specs.Stamps.{is_listed}
use Rattle.base_defuse.proofs.union.is_listed.Given as goal

abbrev pub invariant-loop-x : goal.invariant-loop-x
invariant-loop-x l = is_listed l.items l.stamp ≡ is_listed (drop l.x-index l.items) l.stamp

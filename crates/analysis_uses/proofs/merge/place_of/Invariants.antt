use Rattle.std.proofs.Common.{◌≡◌, drop, map, take, ◌++◌}
use Rattle.base_trait.specs.Uses.{seen}
use Rattle.analysis_transfer_laws.specs.Uses.{with_use}
use Rattle.analysis_uses.proofs.merge.place_of.Given as goal

abbrev pub invariant-loop-i : goal.invariant-loop-i
invariant-loop-i l = with_use l.fields (seen l.one) (map seen l.uses) ≡ take l.i (map seen l.uses) ++ with_use l.fields (seen l.one) (drop l.i (map seen l.uses))

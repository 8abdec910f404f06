use Rattle.std.proofs.Common.{◌≡◌, take, drop, ◌++◌}
use Rattle.analysis_transfer_laws.specs.Uses.{with_stamp}
use Rattle.analysis_uses.proofs.stamps.place_of.Given as goal

abbrev pub invariant-loop-i : goal.invariant-loop-i
invariant-loop-i l = with_stamp l.stamp l.stamps ≡ take l.i l.stamps ++ with_stamp l.stamp (drop l.i l.stamps)

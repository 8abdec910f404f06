use Rattle.std.proofs.Common.{◌≡◌, ◌+◌, length, map}
use Rattle.std.specs.Map.Iter.{deref_pair}
use Rattle.fixpoint_table_check.specs.Standing.{AllStand}
use Rattle.fixpoint_table_check.proofs.checker.check.Given as goal

abbrev pub invariant-loop-at : goal.invariant-loop-at
invariant-loop-at g l = record {
  stand : AllStand g.A.Analyser.view (g.A.Analyser.analysis l.analyser) l.table (map deref_pair l.yielded);
  steps : l.steps ≡ l.initial.steps + length l.yielded;
}

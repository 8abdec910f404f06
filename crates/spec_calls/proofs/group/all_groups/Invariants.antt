use Rattle.support_reachability.specs.Table.{table}
use Rattle.spec_calls.specs.Told.{AreTold}
use Rattle.spec_calls.proofs.group.all_groups.Given as goal

abbrev pub invariant-loop-f : goal.invariant-loop-f
invariant-loop-f l = AreTold (table l.table) l.f l.groups.items

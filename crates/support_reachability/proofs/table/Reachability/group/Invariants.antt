use Rattle.std.proofs.Common.{◌≡◌, ◌-◌, length}
use Rattle.support_reachability.specs.Table.{table, least_from}
use Rattle.support_reachability.proofs.table.Reachability.group.Given as goal

abbrev pub invariant-loop-b : goal.invariant-loop-b
invariant-loop-b l = least_from (table l.self) l.a l.b (length (table l.self) - l.b) ≡ least_from (table l.self) l.a 0 (length (table l.self))

use Rattle.std.proofs.Common.{◌≡◌, ◌+◌, ◌≤◌, drop, get_or, []}
use Rattle.support_reachability.specs.Table.{table, count}
use Rattle.support_reachability.proofs.table.Reachability.rank.Given as goal

abbrev pub invariant-loop-reached : goal.invariant-loop-reached
invariant-loop-reached l = record {
  counted : l.count + count (drop l.reached-index l.reached-items) ≡ count (get_or (table l.self) l.a []);
  bound : l.count ≤ l.reached-index;
}

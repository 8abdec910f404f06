use Rattle.std.proofs.Common.{map}
use Rattle.support_reachability.proofs.Rows.{AreRows}
use Rattle.support_reachability.proofs.table.Reachability.of.Given as goal

abbrev pub invariant-loop-from : goal.invariant-loop-from
invariant-loop-from l = AreRows (map (λ row. row.items) l.graph) l.from (map (λ row. row.items) l.rows.items)

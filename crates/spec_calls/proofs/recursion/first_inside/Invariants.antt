use Rattle.std.proofs.Common.{◌≡◌, map, drop}
use Rattle.support_reachability.specs.Table.{table}
use Rattle.spec_calls.specs.Told.{first_inside}
use Rattle.spec_calls.proofs.recursion.first_inside.Given as goal

abbrev pub invariant-loop-f : goal.invariant-loop-f
invariant-loop-f l = first_inside (table l.table) l.f (map (λ cs. cs.items) (drop l.f l.all)) ≡ first_inside (table l.table) 0 (map (λ cs. cs.items) l.all)

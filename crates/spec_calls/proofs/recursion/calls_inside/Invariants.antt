use Rattle.std.proofs.Common.{◌≡◌, drop}
use Rattle.support_reachability.specs.Table.{table}
use Rattle.spec_calls.specs.Told.{calls_inside}
use Rattle.spec_calls.proofs.recursion.calls_inside.Given as goal

abbrev pub invariant-loop-call : goal.invariant-loop-call
invariant-loop-call l = calls_inside (table l.table) l.f (drop l.call-index l.found) ≡ calls_inside (table l.table) l.f l.found

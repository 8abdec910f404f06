use Rattle.std.proofs.Common.{◌≡◌, ◌++◌, true, length, map, drop}
use Rattle.spec_ir.specs.Views.{term}
use Rattle.spec_calls.specs.Calls as spec
use Rattle.spec_calls.proofs.group.calls_of_all.Given as goal

abbrev pub invariant-loop-body : goal.invariant-loop-body
invariant-loop-body l =
    record {
      calls : map (λ cs. cs.items) l.all.items ++ map (spec.calls true) (map (λ t. term t.now) (drop l.body-index l.bodies)) ≡ map (spec.calls true) (map (λ t. term t.now) l.bodies);
      count : length l.all.items ≡ l.body-index;
    }

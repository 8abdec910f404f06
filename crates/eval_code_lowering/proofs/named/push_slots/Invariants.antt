use Rattle.std.proofs.Common.{◌≡◌, ◌+◌, ◌++◌}
use Rattle.eval_code.specs.Lowered.{slots_from}
use Rattle.eval_code_lowering.proofs.named.push_slots.Given as goal

-- the slots that are left come behind those that are there
abbrev pub invariant-loop-left : goal.invariant-loop-left
invariant-loop-left l =
    record {
      slots : l.scope.items ++ slots_from l.next l.left ≡ l.fn.scope.items ++ slots_from l.fn.next l.count;
      next : l.next + l.left ≡ l.fn.next + l.count;
    }

abbrev pub decreases-loop-left : goal.decreases-loop-left
decreases-loop-left l = l.left

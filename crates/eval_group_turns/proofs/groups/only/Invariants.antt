use Rattle.std.proofs.Common.{◌≡◌, replicate, None}
use Rattle.eval_group_turns.proofs.groups.only.Given as goal

abbrev pub invariant-loop-function : goal.invariant-loop-function
invariant-loop-function g l = l.out.items ≡ replicate l._function None

use Rattle.std.proofs.Common.{◌≡◌, take}
use Rattle.eval_memo.proofs.steps.copy_stamps.Given as goal

abbrev pub invariant-loop-stamp : goal.invariant-loop-stamp
invariant-loop-stamp l = l.out.items ≡ take l.stamp-index l.stamps

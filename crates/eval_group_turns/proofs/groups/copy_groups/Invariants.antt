use Rattle.std.proofs.Common.{◌≡◌, take}
use Rattle.eval_group_turns.specs.Views.{each_abs}
use Rattle.eval_group_turns.proofs.groups.copy_groups.Given as goal

abbrev pub invariant-loop-xs : goal.invariant-loop-xs
invariant-loop-xs g l = each_abs l.out.items ≡ each_abs (take l.xs-index l.args)

use Rattle.std.proofs.Common.{◌≡◌, map, take}
use Rattle.abstract_value.specs.View.{abs}
use Rattle.eval_group_turns.proofs.lists.copy_list.Given as goal

abbrev pub invariant-loop-x : goal.invariant-loop-x
invariant-loop-x g l = map abs l.out.items ≡ map abs (take l.x-index l.xs)

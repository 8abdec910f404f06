use Rattle.std.proofs.Common.{◌≡◌, ◌++◌, map, drop}
use Rattle.abstract_value.specs.View.{abs}
use Rattle.eval_memo.proofs.steps.copy_all.Given as goal

-- what is copied, and what is left
abbrev pub invariant-loop-x : goal.invariant-loop-x
invariant-loop-x g l = map abs l.out.items ++ map abs (drop l.x-index l.xs) ≡ map abs l.xs

use Rattle.std.proofs.Common.{◌≡◌, ◌++◌, map, take}
use Rattle.base_trait.specs.Uses.{seen, uses_of}
use Rattle.eval_memo.proofs.steps.append.Given as goal

abbrev pub invariant-loop-read : goal.invariant-loop-read
invariant-loop-read l = uses_of l.log ≡ uses_of l.initial.log ++ map seen (take l.read-index l.more.uses.items)

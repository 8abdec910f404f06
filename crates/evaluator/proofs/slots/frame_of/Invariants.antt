use Rattle.std.proofs.Common.{◌≡◌, ◌++◌, map, drop}
use Rattle.abstract_value.specs.View.{abs}
use Rattle.evaluator.proofs.slots.frame_of.Given as goal

-- what is copied, and what is left
abbrev pub invariant-loop-arg : goal.invariant-loop-arg
invariant-loop-arg g l = map abs l.frame.items ++ map abs (drop l.arg-index l.args) ≡ map abs l.args

use Rattle.std.proofs.Common.{◌≡◌, map, drop}
use Rattle.abstract_value_laws.specs.Calls.{absorbs_of}
use Rattle.abstract_value.specs.View.{abs}
use Rattle.abstract_semantics.specs.Calls.{all_absorb}
use Rattle.eval_group_turns.proofs.lists.lists_absorb.Given as goal

abbrev pub invariant-loop-i : goal.invariant-loop-i
invariant-loop-i g l =
    let f = all_absorb (absorbs_of g.B.Base.algebra l.ctx) in
    f (map abs l.xs) (map abs l.ys) ≡ f (drop l.i (map abs l.xs)) (drop l.i (map abs l.ys))

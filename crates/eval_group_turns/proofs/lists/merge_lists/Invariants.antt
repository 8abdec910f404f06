use Rattle.std.proofs.Common.{◌≡◌, ◌++◌, map, drop}
use Rattle.abstract_value.specs.View.{abs}
use Rattle.abstract_value.specs.Ways.{merged}
use Rattle.abstract_semantics.specs.Terms.{merge_all}
use Rattle.eval_group_turns.proofs.lists.merge_lists.Given as goal

abbrev pub invariant-loop-i : goal.invariant-loop-i
invariant-loop-i g l =
    let f = merge_all (merged g.B.Base.algebra l.ctx g.B.Base.CAP l.way) in
    f (map abs l.xs) (map abs l.ys) ≡ map abs l.out.items ++ f (drop l.i (map abs l.xs)) (drop l.i (map abs l.ys))

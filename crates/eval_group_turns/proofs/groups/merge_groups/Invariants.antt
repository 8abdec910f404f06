use Rattle.std.proofs.Common.{◌≡◌, ◌++◌, drop}
use Rattle.support_tail_fixpoint.specs.Groups.{merge_each}
use Rattle.abstract_value.specs.Ways.{merged}
use Rattle.abstract_semantics.specs.Terms.{merge_all}
use Rattle.eval_group_turns.specs.Views.{each_abs}
use Rattle.eval_group_turns.proofs.groups.merge_groups.Given as goal

abbrev pub invariant-loop-i : goal.invariant-loop-i
invariant-loop-i g l =
    let f = merge_each (merge_all (merged g.B.Base.algebra l.ctx g.B.Base.CAP l.way)) in
    f (each_abs l.xs) (each_abs l.ys) ≡ each_abs l.out.items ++ f (drop l.i (each_abs l.xs)) (drop l.i (each_abs l.ys))

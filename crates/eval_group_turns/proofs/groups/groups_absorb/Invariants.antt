use Rattle.std.proofs.Common.{◌≡◌, drop}
use Rattle.abstract_value_laws.specs.Calls.{absorbs_of}
use Rattle.support_tail_fixpoint.specs.Groups.{each_absorbs}
use Rattle.abstract_semantics.specs.Calls.{all_absorb}
use Rattle.eval_group_turns.specs.Views.{each_abs}
use Rattle.eval_group_turns.proofs.groups.groups_absorb.Given as goal

abbrev pub invariant-loop-i : goal.invariant-loop-i
invariant-loop-i g l =
    let f = each_absorbs (all_absorb (absorbs_of g.B.Base.algebra l.ctx)) in
    f (each_abs l.xs) (each_abs l.ys) ≡ f (drop l.i (each_abs l.xs)) (drop l.i (each_abs l.ys))

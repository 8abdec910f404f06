use Rattle.std.proofs.Common.{◌≡◌, ◌+◌, ◌*◌, ◌++◌, map, max, drop}
use denote.Param.Weighed.{most}
use Rattle.spec_ir.specs.declared.core_term.Core.{size-Core}
use Rattle.spec_ir.specs.CoreTerms.{cores}
use Rattle.spec_ir.specs.Views.{core}
use Rattle.spec_match_compiler.specs.Views.{tree}
use Rattle.eval_code.specs.Views.{node, stretch}
use Rattle.eval_code.specs.Lowered.{all_lowered, lowered_arms}
use Rattle.eval_code_lowering.specs.Writing.{IsSame, stretches_onto}
use Rattle.eval_code_lowering.proofs.lowering.+lower.Given as goal

abbrev pub decreases-lower_term : goal.decreases-lower_term
decreases-lower_term l = 5 * size-Core l.t.now

abbrev pub decreases-lower_let : goal.decreases-lower_let
decreases-lower_let l = 5 * max (size-Core l.x.now) (size-Core l.then.now) + 4

abbrev pub decreases-lower_put : goal.decreases-lower_put
decreases-lower_put l = 5 * max (size-Core l.x.now) (max (size-Core l.key.now) (size-Core l.v.now)) + 4

abbrev pub decreases-lower_all : goal.decreases-lower_all
decreases-lower_all l = 5 * most size-Core l.ts.now + 1

abbrev pub decreases-lower_stretch : goal.decreases-lower_stretch
decreases-lower_stretch l = 5 * size-Core l.t.now + 1

abbrev pub decreases-lower_arm : goal.decreases-lower_arm
decreases-lower_arm l = 5 * size-Core l.t.now + 2

abbrev pub decreases-lower_arms : goal.decreases-lower_arms
decreases-lower_arms l = 5 * most size-Core l.arms.now + 3

-- what is left comes behind what is out
abbrev pub invariant-lower_all-loop-t : goal.invariant-lower_all-loop-t
invariant-lower_all-loop-t l =
    let whole = all_lowered l.fn.to.scope.items l.fn.to.next (cores (map core l.ts)) in
    let left = all_lowered l.fn.to.scope.items l.to.next (cores (map core (drop l.t-index l.ts))) in
    record {
      nodes : map node l.to.nodes.items ++ left.nodes ≡ map node l.fn.to.nodes.items ++ whole.nodes;
      slots : l.slots.items ++ left.slots ≡ whole.slots;
      next : left.next ≡ whole.next;
      scope : l.to.scope.items ≡ l.fn.to.scope.items;
    }

abbrev pub invariant-lower_arms-loop-i : goal.invariant-lower_arms-loop-i
invariant-lower_arms-loop-i l =
    record {
      arms : stretches_onto (map stretch l.out.items) (lowered_arms l.fn.to.scope.items l.fn.to.next (tree l.by) l.i (cores (map core (drop l.i l.arms)))) ≡ lowered_arms l.fn.to.scope.items l.fn.to.next (tree l.by) 0 (cores (map core l.arms));
      same : IsSame l.fn.to l.to;
    }

use Rattle.std.proofs.Common.{◌≡◌, ◌+◌, ◌*◌, map, drop}
use denote.Param.Weighed.{most}
use Rattle.spec_ir.specs.declared.core_term.Core.{size-Core}
use Rattle.spec_ir.specs.CoreTerms.{cores}
use Rattle.spec_ir.specs.Views.{core, specification}
use Rattle.spec_match_compiler.specs.Views.{tree}
use Rattle.semantics.specs.Direct.{group_of}
use Rattle.eval_code.specs.Views.{tail}
use Rattle.eval_code.specs.Lowered.{lowered_tails}
use Rattle.eval_code_lowering.specs.Writing.{IsSame, tails_onto}
use Rattle.eval_code_lowering.proofs.tails.+tails.Given as goal

abbrev pub decreases-lower_end : goal.decreases-lower_end
decreases-lower_end l = 5 * size-Core l.t.now

abbrev pub decreases-lower_tail : goal.decreases-lower_tail
decreases-lower_tail l = 5 * size-Core l.t.now + 1

abbrev pub decreases-lower_boxed : goal.decreases-lower_boxed
decreases-lower_boxed l = 5 * size-Core l.t.now + 2

abbrev pub decreases-lower_arm : goal.decreases-lower_arm
decreases-lower_arm l = 5 * size-Core l.t.now + 2

abbrev pub decreases-lower_tails : goal.decreases-lower_tails
decreases-lower_tails l = 5 * most size-Core l.arms.now + 3

abbrev pub invariant-lower_tails-loop-i : goal.invariant-lower_tails-loop-i
invariant-lower_tails-loop-i l =
    record {
      arms : tails_onto (map tail l.out.items) (lowered_tails (group_of (specification l.spec)) l.group l.fn.to.scope.items l.fn.to.next (tree l.by) l.i (cores (map core (drop l.i l.arms)))) ≡ lowered_tails (group_of (specification l.spec)) l.group l.fn.to.scope.items l.fn.to.next (tree l.by) 0 (cores (map core l.arms));
      same : IsSame l.fn.to l.to;
    }

use denote.Param.Weighed.{most}
use Rattle.std.proofs.Common.{◌+◌, ◌*◌, max}
use Rattle.spec_ir.specs.declared.core_term.Core.{size-Core}
use Rattle.analysis_choices.proofs.comparison.+comparisons.Given as goal

abbrev pub decreases-compared : goal.decreases-compared
decreases-compared l = 2 * size-Core l.t.now

abbrev pub decreases-compared_branches : goal.decreases-compared_branches
decreases-compared_branches l = 2 * max (size-Core l.c.now) (max (size-Core l.yes.now) (size-Core l.no.now)) + 1

abbrev pub decreases-compared_arm : goal.decreases-compared_arm
decreases-compared_arm l = 2 * most size-Core l.arms.now + 1

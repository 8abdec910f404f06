use denote.Param.Weighed.{most}
use Rattle.std.proofs.Common.{◌≡◌, ◌+◌, ◌*◌, map, drop}
use Rattle.syntax_parser.specs.declared.tree.Arm.{size-Arm}
use Rattle.syntax_parser.specs.declared.tree.Expr.{size-Expr}
use Rattle.syntax_parser.specs.Tree.{arms, terms}
use Rattle.syntax_parser.specs.View.{arm, term}
use Rattle.spec_names.specs.Names.{all_patterns_fault, arm_patterns_fault}
use Rattle.spec_names.proofs.patterns.+patterns.Given as goal

abbrev pub invariant-check_all-loop-t : goal.invariant-check_all-loop-t
invariant-check_all-loop-t l = all_patterns_fault (terms (map term l.ts)) ≡ all_patterns_fault (terms (map term (drop l.t-index l.ts)))

abbrev pub invariant-check_arms-loop-a : goal.invariant-check_arms-loop-a
invariant-check_arms-loop-a l = arm_patterns_fault (arms (map arm l.arms)) ≡ arm_patterns_fault (arms (map arm (drop l.a-index l.arms)))

abbrev pub decreases-check_patterns : goal.decreases-check_patterns
decreases-check_patterns l = 3 * size-Expr l.e.now

abbrev pub decreases-check_all : goal.decreases-check_all
decreases-check_all l = 3 * most size-Expr l.ts.now + 1

abbrev pub decreases-check_arms : goal.decreases-check_arms
decreases-check_arms l = 3 * most size-Arm l.arms.now + 1

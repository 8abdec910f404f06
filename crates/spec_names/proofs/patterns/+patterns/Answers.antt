use Rattle.std.proofs.Common.{◌≡◌, ◌+◌, max, arith, ap}
use denote.Param.Weighed.{most}
use Rattle.syntax_parser.specs.declared.tree.Arm.{size-Arm}
use Rattle.syntax_parser.specs.declared.tree.Expr.{size-Expr}
use Rattle.syntax_parser.specs.declared.tree.Expr.TheVariants.{Match}
use Rattle.syntax_parser.specs.declared.tree.Expr.TheViews.{sized-Match}
use Rattle.spec_names.proofs.patterns.+patterns.Goals as goal

pub check_patterns-check_arms-requires : goal.check_patterns-check_arms-requires
check_patterns-check_arms-requires t c =
    let x = c.in-Match.x in
    let arms = c.in-Match.arms in
    let sized : size-Expr (Match x arms c.in-Match._span) ≡ max (size-Expr x.value) (max (most size-Arm arms.items) 0) + 1 = sized-Match x arms c.in-Match._span in
    let same : most size-Arm c.deref-in-Match-2.result.now ≡ most size-Arm arms.items = ap (most size-Arm) c.deref-in-Match-2.ensures.value in
    (omega (arith, sized, same, ap size-Expr c.in-Match.is, c.decreases), tt)

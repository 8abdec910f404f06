use Rattle.std.proofs.Common.{arith}
use Rattle.base_trait.specs.Uses.{seen}
use Rattle.fixpoint_table_check.proofs.Lists.{same_at}
use Rattle.fixpoint_table_check.proofs.same_uses.are_same_uses.Goals as goal

pub returns-then-not-is_same_use : goal.returns-then-not-is_same_use
returns-then-not-is_same_use c =
    let long = c.loop-i.invariant.long in
    let lx = c.loop-i-test.true in
    (λ no. cc, λ same. c.if-not-is_same_use.ensures.1 (same_at seen c.args.x.now c.args.y.now c.loop-i.i c.index-x-i.result c.index-y-i.result lx (omega (arith, long, lx)) c.index-x-i.is c.index-y-i.is same))

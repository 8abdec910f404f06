use Rattle.std.proofs.Common.{rules}
use Rattle.domain_affine.proofs.Lists.{key_more}
use Rattle.domain_affine.proofs.opened.opened_cells.Goals as goal

pub loop-k-preserved : goal.loop-k-preserved
loop-k-preserved c = key_more c.args.ctx.now c.args.words.now c.args.n c.loop-k.k c.args.keys c.loop-k-test.true c.loop-k.out.items _ c.loop-k.invariant _ (search rules)

use Rattle.domain_affine.proofs.Lists.{keys_more}
use Rattle.domain_affine.proofs.tracked.push_keys.Goals as goal

pub loop-k-preserved : goal.loop-k-preserved
loop-k-preserved c = keys_more c.args.n c.loop-k.k c.args.cells.now.items c.loop-k.cells.items c.push.new.self.items c.in_ok-push.ensures.items c.loop-k.invariant

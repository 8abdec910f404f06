use Rattle.std.proofs.Common.{append_assoc}
use Rattle.code_image.proofs.Sizes.{addresses_step}
use Rattle.code_image.proofs.image.push_addresses.Goals as goal

pub loop-i-preserved : goal.loop-i-preserved
loop-i-preserved c =
    let h = rw (addresses_step c.args.base c.loop-i.i c.args.words c.loop-i-test.true) at c.loop-i.invariant in
    rw (c.in_ok-push.ensures.items, append_assoc) h

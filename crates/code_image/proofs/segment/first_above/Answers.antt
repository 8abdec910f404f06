use Rattle.std.proofs.Common.{◌<◌, length, arith}
use Rattle.code_image.proofs.Placing.{found_here, found_later}
use Rattle.code_image.proofs.segment.first_above.Goals as goal

pub returns-then-base-s-clause-place : goal.returns-then-base-s-clause-place
returns-then-base-s-clause-place c = λ s e.
    let h : c.loop-i.i < length c.args.segments.now = omega arith in
    found_here c.args.segments.now c.loop-i.i c.index-segments-i.result c.index-segments-i.is h s (omega (arith, e)) (c.loop-i.invariant s e)

pub loop-i-preserved : goal.loop-i-preserved
loop-i-preserved c = λ s e.
    let h : c.loop-i.i < length c.args.segments.now = omega arith in
    found_later c.args.segments.now c.loop-i.i c.index-segments-i.result c.index-segments-i.is h s (omega (arith, e)) (c.loop-i.invariant s e)

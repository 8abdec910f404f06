use Rattle.std.proofs.Common.{◌≡◌, ◌<◌, length, map, arith, None}
use Rattle.code_image.specs.Faults.{segment_fault}
use Rattle.code_image.specs.Views.{segment_of}
use Rattle.code_image.proofs.Making.{next_made, next_sum, next_length}
use Rattle.code_image.proofs.image.Image.new.Goals as goal

pub loop-segment-preserved : goal.loop-segment-preserved
loop-segment-preserved c =
    let xs = c.args.segments.now in
    let i = c.loop-segment.segment-index in
    let done = c.loop-segment.placed.items in
    let next = c.place.new.segments.items in
    let x = c.segment-item.result in
    let h : i < length xs = omega arith in
    let none : segment_fault (map segment_of done) (segment_of x) ≡ None = rw c.deref.ensures.value at c.in_ok-check_segment.ensures in
    let all = map segment_of xs in
    record {
      made = next_made all xs done next i x c.segment-item.is h c.in_ok-place.ensures c.loop-segment.invariant.made none;
      total = omega (arith, next_sum all xs done next i x c.segment-item.is h c.in_ok-place.ensures, c.len-total.ensures, c.loop-segment.invariant.total);
      count = omega (arith, next_length all xs done next i x c.segment-item.is h c.in_ok-place.ensures, c.loop-segment.invariant.count);
    }

use Rattle.std.proofs.Common.{◌≡◌, map, take, drop, length}
use Rattle.code_image.specs.Faults.{bytes_sum}
use Rattle.code_image.specs.Views.{segment_of}
use Rattle.code_image.proofs.Making.{IsMade}
use Rattle.code_image.proofs.image.Image.new.Given as goal

abbrev pub invariant-loop-segment : goal.invariant-loop-segment
invariant-loop-segment l = record {
  made : IsMade (map segment_of l.segments) (map segment_of (take l.segment-index l.segments)) (map segment_of (drop l.segment-index l.segments)) (map segment_of l.placed.items);
  total : l.total ≡ bytes_sum (map segment_of l.placed.items);
  count : length l.placed.items ≡ l.segment-index;
}

use Rattle.std.proofs.Common.{◌≡◌, ◌≤◌, ◌++◌, true, drop, map}
use Rattle.std.specs.List.{list_all}
use Rattle.code_image.specs.Faults.{bytes_sum, is_segment}
use Rattle.code_image.specs.Image.{addresses}
use Rattle.code_image.specs.Views.{segment_of}
use Rattle.code_image.proofs.image.Image.addresses.Given as goal

abbrev pub invariant-loop-segment : goal.invariant-loop-segment
invariant-loop-segment l = record {
  out : addresses l.self.segments ≡ l.out.items ++ addresses (map segment_of (drop l.segment-index l.segment-items));
  each : list_all is_segment (map segment_of (drop l.segment-index l.segment-items)) ≡ true;
  size : bytes_sum (map segment_of (drop l.segment-index l.segment-items)) ≤ 1048576;
}

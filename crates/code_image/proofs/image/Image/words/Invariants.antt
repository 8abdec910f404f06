use Rattle.std.proofs.Common.{◌≡◌, ◌+◌, ◌≤◌, drop, map}
use Rattle.code_image.specs.Faults.{bytes_sum}
use Rattle.code_image.specs.Image.{words_sum}
use Rattle.code_image.specs.Views.{segment_of}
use Rattle.code_image.proofs.image.Image.words.Given as goal

abbrev pub invariant-loop-segment : goal.invariant-loop-segment
invariant-loop-segment l = record {
  sum : words_sum l.self.segments ≡ l.sum + words_sum (map segment_of (drop l.segment-index l.segment-items));
  size : l.sum + bytes_sum (map segment_of (drop l.segment-index l.segment-items)) ≤ 1048576;
}

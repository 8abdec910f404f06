use Rattle.std.proofs.Common.{◌≡◌, ◌++◌, map, take, drop}
use Rattle.code_image.specs.Image.{Segment, placed}
use Rattle.code_image.specs.Views.{segment_of}
use Rattle.code_image.proofs.segment.first_above.Given as goal

abbrev pub invariant-loop-i : goal.invariant-loop-i
invariant-loop-i l = (s : Segment) → s.base ≡ l.base → placed s (map segment_of l.segments) ≡ take l.i (map segment_of l.segments) ++ placed s (map segment_of (drop l.i l.segments))

use Rattle.std.proofs.Common.{◌≡◌, drop, map}
use Rattle.code_image.specs.Image.{word_in}
use Rattle.code_image.specs.Views.{segment_of}
use Rattle.code_image.proofs.image.Image.fetch.Given as goal

abbrev pub invariant-loop-segment : goal.invariant-loop-segment
invariant-loop-segment l = word_in l.self-inside.order (map segment_of l.self-inside.segments.items) l.address ≡ word_in l.self-inside.order (map segment_of (drop l.segment-index l.self-inside.segments.items)) l.address

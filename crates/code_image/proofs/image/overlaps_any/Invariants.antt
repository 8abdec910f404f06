use Rattle.std.proofs.Common.{◌≡◌, ◌≤◌, drop, map}
use Rattle.std.specs.List.{list_any}
use Rattle.code_image.specs.Faults.{bytes_sum, overlaps}
use Rattle.code_image.specs.Views.{segment_of}
use Rattle.code_image.proofs.image.overlaps_any.Given as goal

abbrev pub invariant-loop-q : goal.invariant-loop-q
invariant-loop-q l = record {
  any : list_any (overlaps (segment_of l.s)) (map segment_of l.earlier) ≡ list_any (overlaps (segment_of l.s)) (map segment_of (drop l.q-index l.earlier));
  size : bytes_sum (map segment_of (drop l.q-index l.earlier)) ≤ 1048576;
}

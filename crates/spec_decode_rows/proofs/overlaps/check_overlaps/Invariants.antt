use Rattle.std.proofs.Common.{◌≡◌, map, drop}
use Rattle.syntax_parser.specs.View.{row}
use Rattle.spec_decode_rows.specs.Rows.{overlap_fault}
use Rattle.spec_decode_rows.specs.Views.{earlier}
use Rattle.spec_decode_rows.proofs.overlaps.check_overlaps.Given as goal

abbrev pub invariant-loop-q : goal.invariant-loop-q
invariant-loop-q l = overlap_fault (map earlier l.before) (row l.r) ≡ overlap_fault (map earlier (drop l.q-index l.before)) (row l.r)

use Rattle.std.proofs.Common.{◌≡◌, ◌++◌, [], map, drop}
use Rattle.syntax_parser.specs.View.{row}
use Rattle.spec_ir.specs.Views.{row_of}
use Rattle.spec_decode_rows.specs.Decoded.{decoded}
use Rattle.spec_decode_rows.specs.Rows.{rows_fault}
use Rattle.spec_decode_rows.specs.Views.{earlier}
use Rattle.spec_decode_rows.proofs.rows.check_rows.Given as goal

abbrev pub invariant-loop-r : goal.invariant-loop-r
invariant-loop-r l = record {
  faults : rows_fault l.environment l.instr [] (map row l.r-items) ≡ rows_fault l.environment l.instr (map earlier l.before.items) (map row (drop l.r-index l.r-items));
  out_is : map (decoded l.environment) (map row l.r-items) ≡ map row_of l.out.items ++ map (decoded l.environment) (map row (drop l.r-index l.r-items));
}

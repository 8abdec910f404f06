use Rattle.std.proofs.Common.{◌≡◌, [], length}
use Rattle.text_part_readers.proofs.RowSteps.{RowsSo}
use Rattle.text_part_readers.proofs.rows.read_rows.Given as goal

abbrev pub invariant-rows : goal.invariant-rows
invariant-rows l = record {
  cells : l.rows.k ≡ l.k;
  so_far : RowsSo l.k l.fn.lines l.lines l.rows.rows;
}

abbrev pub decreases-rows : goal.decreases-rows
decreases-rows l = length l.lines

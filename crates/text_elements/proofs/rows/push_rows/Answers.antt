use Rattle.std.proofs.Common.{arith}
use Rattle.std.specs.String.{string_bytes}
use Rattle.text_elements.specs.Rows.{row_lines}
use Rattle.text_elements.proofs.RowLines.{adds_more, row_out, rows_done}
use Rattle.text_elements.proofs.rows.push_rows.Goals as goal

pub loop-i-preserved : goal.loop-i-preserved
loop-i-preserved c =
    let rows = c.args.rows.now in
    let row = c.row.result.now in
    record {
      lines = row_out rows.rows c.loop-i.i row _ _ _ c.row.ensures.item c.loop-i.invariant.lines c.in_ok-push_row.ensures;
      add = adds_more rows.k rows.rows c.loop-i.i row c.loop-i.invariant.add c.row.ensures.item (record { numbers = c.row.ensures.len; is_new = c.row.ensures.adds });
    }

pub returns : goal.returns
returns c =
    let rows = c.args.rows.now in
    let done = rows_done rows c.loop-i.i (string_bytes c.args.out.now) (string_bytes c.loop-i.out) (omega (arith, c.loop-i-test.false, c.len-i-end.ensures)) c.loop-i.invariant.add c.loop-i.invariant.lines in
    record { text = row_lines rows.rows; is = done.0; appended = done.1 }

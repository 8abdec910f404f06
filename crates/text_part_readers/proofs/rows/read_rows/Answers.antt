use Rattle.std.proofs.Common.{◌≡◌, true, false, List, ℕ, ap, ◌∙◌, sym}
use Rattle.domain_affine_element_laws.specs.Elements.{SameMembers}
use Rattle.text_part_readers.specs.Rows.{IsRowRead}
use Rattle.text_part_readers.proofs.RowSteps.{no_rows, rows_done, rows_fewer, rows_more}
use Rattle.text_part_readers.proofs.rows.read_rows.Goals as goal

pub returns-then-not-branch-clause-rows : goal.returns-then-not-branch-clause-rows
returns-then-not-branch-clause-rows c =
    (rows_done c.args.k c.args.lines.now c.rows.lines c.read_row.new.lines c.rows.rows.rows c.read_row.new.rows.rows c.rows.invariant.so_far (rw c.if-not-branch.true at c.in_ok-read_row.ensures.row)).0

pub returns-then-not-branch-clause-lines : goal.returns-then-not-branch-clause-lines
returns-then-not-branch-clause-lines c =
    (rows_done c.args.k c.args.lines.now c.rows.lines c.read_row.new.lines c.rows.rows.rows c.read_row.new.rows.rows c.rows.invariant.so_far (rw c.if-not-branch.true at c.in_ok-read_row.ensures.row)).1

pub rows-smaller : goal.rows-smaller
rows-smaller c =
    rows_fewer c.args.k c.args.lines.now c.rows.lines c.read_row.new.lines c.rows.rows.rows c.read_row.new.rows.rows c.rows.invariant.so_far (rw c.if-not-branch.false at c.in_ok-read_row.ensures.row)

pub rows-preserved : goal.rows-preserved
rows-preserved c =
    record {
      cells = c.in_ok-read_row.ensures.same;
      so_far = rows_more c.args.k c.args.lines.now c.rows.lines c.read_row.new.lines c.rows.rows.rows c.read_row.new.rows.rows c.rows.invariant.so_far (rw c.if-not-branch.false at c.in_ok-read_row.ensures.row);
    }

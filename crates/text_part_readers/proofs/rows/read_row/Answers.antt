use Rattle.std.proofs.Common.{◌≡◌, ◌+◌, List, ℕ, Some, length, ap, ◌∙◌, sym}
use Rattle.text_part_readers.proofs.RowSteps.{row_known, row_length, row_taken}
use Rattle.text_part_readers.specs.Rows.{row_said}
use Rattle.text_part_readers.proofs.rows.read_row.Goals as goal
use Rattle.text_part_readers.proofs.rows.read_row.Goals.{then-more, else-more}

pub insert-more-requires : goal.insert-more-requires
insert-more-requires c =
    let said : Some c.in-Some-2.row.items ≡ row_said c.args.k c.in-Some.line.now = rw c.in-Some-2.is at c.in_ok-row.ensures in
    ap (λ (row : List ℕ). length row) c.deref.ensures.value ∙ row_length c.args.k c.in-Some.line.now c.in-Some-2.row.items said ∙ ap (λ k. k + 1) (sym c.requires.cells)

pub returns-clause-row : goal.returns-clause-row
returns-clause-row c =
    let said : Some c.in-Some-2.row.items ≡ row_said c.args.k c.in-Some.line.now = rw c.in-Some-2.is at c.in_ok-row.ensures in
    let row_is : Some c.deref.result.now ≡ row_said c.args.k c.in-Some.line.now = ap (λ (row : List ℕ). Some row) c.deref.ensures.value ∙ said in
    λ given same. elim c.if-more.branch [
      | then-more w ↦
          rw (w.if-more.true, w.lines-is)
          (row_taken c.args.rows.now.k c.args.k c.requires.cells c.args.rows.now.rows c.insert-more.new.self.rows given c.args.lines.now c.in-Some.rest c.in-Some.line.now c.deref.result.now
          c.in-Some.ensures row_is (rw w.if-more.true at c.insert-more.ensures.grew) c.insert-more.ensures.members same)
      | else-more w ↦
          rw (w.if-more.false, w.lines-is)
          (row_known c.args.rows.now.k c.args.k c.requires.cells c.args.rows.now.rows c.insert-more.new.self.rows given c.args.lines.now c.in-Some.rest c.in-Some.line.now c.deref.result.now
          c.in-Some.ensures row_is (rw w.if-more.false at c.insert-more.ensures.grew) c.insert-more.ensures.members same)
    ]

use Rattle.std.proofs.Common.{◌≡◌, ◌+◌, ◌-◌}
use Rattle.text_part_readers.specs.Rows.{row_said, spaced_in}
use Rattle.text_part_readers.proofs.RowSteps.{behind_numbers}
use Rattle.text_part_readers.proofs.rows.row_said.Given as goal

abbrev pub invariant-loop-i : goal.invariant-loop-i
invariant-loop-i l = row_said l.k l.line ≡ behind_numbers l.row.items (spaced_in (l.k + 1 - l._i) l.text)

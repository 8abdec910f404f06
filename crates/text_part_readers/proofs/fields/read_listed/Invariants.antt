use Rattle.std.proofs.Common.{◌≡◌, ◌-◌, List, [], length}
use Rattle.std.specs.Prelude.{is_some}
use Rattle.code_image.specs.Image.{code_at}
use Rattle.spec_ir.specs.Views.{specification}
use Rattle.text_lines.specs.Outcomes.{all_said}
use Rattle.text_part_readers.specs.Cells.{listed_read, next_said}
use Rattle.text_part_readers.specs.Keys.{last_key}
use Rattle.text_part_readers.proofs.fields.read_listed.Given as goal

abbrev pub invariant-cells : goal.invariant-cells
invariant-cells g l =
    let said = next_said g.B.CellBase.readings (λ a. is_some (code_at l.image a)) (specification l.spec) g.B.Base.CAP l.name l.ty l.w in
    record {
      so_far : all_said said [] l.fn.lines ≡ all_said said l.cells.items l.lines;
      last : l.last ≡ last_key l.cells.items;
    }

abbrev pub decreases-cells : goal.decreases-cells
decreases-cells g l = g.B.Base.CAP - length l.cells.items

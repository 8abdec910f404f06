use Rattle.std.proofs.Common.{◌≡◌, drop, map}
use Rattle.std.specs.Prelude.{is_some}
use Rattle.code_image.specs.Image.{code_at}
use Rattle.spec_ir.specs.Views.{specification}
use Rattle.abstract_value.specs.View.{abs}
use Rattle.text_part_readers.specs.Cells.{fields_read}
use Rattle.text_part_readers.proofs.FieldSteps.{behind_values}
use Rattle.text_part_readers.proofs.fields.read_fields.Given as goal

abbrev pub invariant-loop-i : goal.invariant-loop-i
invariant-loop-i g l =
    let read = fields_read g.B.CellBase.readings (λ a. is_some (code_at l.image a)) (specification l.spec) g.B.Base.CAP in
    read l.fields l.fn.lines ≡ behind_values (map abs l.values.items) (read (drop l.i l.fields) l.lines)

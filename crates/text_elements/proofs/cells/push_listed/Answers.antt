use Rattle.spec_ir.specs.Views.{specification}
use Rattle.text_elements.proofs.CellLines.{listed_out}
use Rattle.text_elements.proofs.cells.push_listed.Goals as goal

pub loop-place-preserved : goal.loop-place-preserved
loop-place-preserved g c =
    listed_out g.B.BaseText.texts (specification c.args.spec.now) c.args.field.now c.args.m.now c.loop-place.place c.key_at.result c.width.result c.cell_at.result.0.now c.cell_at.result.1.now
    _ _ _ c.cell_at.ensures c.key_at.ensures c.width.ensures c.loop-place.invariant c.in_ok-push_line.ensures

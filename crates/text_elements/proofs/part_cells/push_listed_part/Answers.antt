use Rattle.std.proofs.Common.{◌≤◌, subst}
use Rattle.std.specs.Prelude.{slice_index}
use Rattle.spec_ir.specs.Views.{specification}
use Rattle.abstract_map_laws.specs.Maps.{keys}
use Rattle.text_elements.proofs.PartLines.{part_out, parts_done}
use Rattle.text_elements.proofs.part_cells.push_listed_part.Goals as goal

pub loop-place-preserved : goal.loop-place-preserved
loop-place-preserved g c =
    part_out g.P.ProductPart.word_of g.P.ProductPart.note_of g.P.To.BaseText.texts (specification c.args.spec.now) c.args.field.now c.args.m.now c.loop-place.place c.key_at.result (slice_index (keys c.args.m.now) c.loop-place.place) c.width.result
    c.cell_at.result.0.now c.cell_at.result.1.now c.word_in.result.now c.note_in.result.now _ _ _ c.cell_at.ensures c.key_at.ensures c.width.ensures c.word_in.ensures c.note_in.ensures c.loop-place.invariant c.in_ok-push_line.ensures

pub returns : goal.returns
returns g c =
    parts_done g.P.ProductPart.word_of g.P.ProductPart.note_of g.P.To.BaseText.texts (specification c.args.spec.now) c.args.field.now c.args.m.now c.loop-place.place _ _
    (subst (λ n. n ≤ c.loop-place.place) c.listed-place-end.ensures c.loop-place-test.false) c.loop-place.invariant

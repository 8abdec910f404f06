use Rattle.std.proofs.Common.{◌∙◌, ◌≤◌, ◌++◌, length, min, sym, ap, arith, append-nil}
use Rattle.std.specs.String.{string_bytes}
use Rattle.spec_ir.specs.Views.{specification}
use Rattle.abstract_value.specs.View.{abs}
use Rattle.domain_product_laws.specs.Calls.{mapped_value}
use Rattle.text_elements.specs.Cells.{field_lines}
use Rattle.text_elements.proofs.CellLines.{field_out, fields_done}
use Rattle.text_elements.proofs.PartLines.{parts_mapped}
use Rattle.text_elements.proofs.part_cells.push_fields_part.Goals as goal

pub returns : goal.returns
returns g c =
    let end : min (length c.args.fields.now) (length c.args.values.now) ≤ c.loop-i.i = omega (arith, c.min-i-end.ensures) in
    let done = fields_done g.P.To.BaseText.texts (specification c.args.spec.now) (λ v. mapped_value g.P.ProductPart.word_of g.P.ProductPart.note_of (abs v)) c.args.fields.now c.args.values.now c.loop-i.i end in
    let h = rw done at c.loop-i.invariant in
    sym (h ∙ append-nil (string_bytes c.loop-i.out))
    ∙ ap (λ xs. string_bytes c.args.out.now ++ field_lines g.P.To.BaseText.texts (specification c.args.spec.now) c.args.fields.now xs) (parts_mapped g.P.ProductPart.word_of g.P.ProductPart.note_of abs c.args.values.now)

pub loop-i-preserved : goal.loop-i-preserved
loop-i-preserved g c =
    field_out g.P.To.BaseText.texts (specification c.args.spec.now) (λ v. mapped_value g.P.ProductPart.word_of g.P.ProductPart.note_of (abs v)) c.args.fields.now c.args.values.now c.loop-i.i _ _ _ _ _ (omega (arith, c.loop-i-test.true, c.min-i-end.ensures)) (omega (arith, c.loop-i-test.true, c.min-i-end.ensures))
    c.index-fields-i.is c.index-values-i.is c.loop-i.invariant c.in_ok-push_value_part.ensures

use Rattle.std.proofs.Common.{◌≡◌, ◌++◌, drop, map}
use Rattle.std.specs.String.{string_bytes}
use Rattle.spec_ir.specs.Views.{specification}
use Rattle.abstract_value_laws.specs.Abs.{parts}
use Rattle.abstract_value.specs.View.{abs}
use Rattle.domain_product_laws.specs.Calls.{mapped_value}
use Rattle.text_elements.specs.Cells.{field_lines}
use Rattle.text_elements.proofs.part_cells.push_fields_part.Given as goal

abbrev pub invariant-loop-i : goal.invariant-loop-i
invariant-loop-i g l =
    string_bytes l.fn.out ++ field_lines g.P.To.BaseText.texts (specification l.spec) l.fields (parts (map (λ v. mapped_value g.P.ProductPart.word_of g.P.ProductPart.note_of (abs v)) l.values))
    ≡ string_bytes l.out ++ field_lines g.P.To.BaseText.texts (specification l.spec) (drop l.i l.fields) (parts (map (λ v. mapped_value g.P.ProductPart.word_of g.P.ProductPart.note_of (abs v)) (drop l.i l.values)))

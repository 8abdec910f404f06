use Rattle.std.proofs.Common.{◌++◌, ℕ, List, ap, ◌∙◌, map}
use Rattle.spec_ir.specs.Views.{specification}
use Rattle.abstract_value_laws.specs.Abs.{parts}
use Rattle.abstract_value.specs.View.{abs}
use Rattle.state_cell_text.specs.Places.{state_fields}
use Rattle.text_elements.specs.Cells.{cell_lines}
use Rattle.text_elements.specs.Parts.{part_line}
use Rattle.text_elements.proofs.Appending.{appended_behind}
use Rattle.text_elements.proofs.element.StateDomainWriteElement.push_element.Goals as goal

pub returns : goal.returns
returns g c =
    let spec = specification c.args.spec.now in
    let lines = cell_lines g.B.BaseText.texts spec (state_fields spec) in
    appended_behind c.push_cells.result _ _ _ _ (part_line c.name.result.now) (lines (parts (map abs c.deref.result.now))) c.in_ok-push_part.ensures
    (ap (λ (name : List ℕ). part_line name ++ lines (parts (map abs c.deref.result.now))) c.name.ensures ∙ ap (λ xs. part_line g.B.NamedBase.named ++ lines (parts (map abs xs))) c.deref.ensures.value)
    c.push_cells.ensures

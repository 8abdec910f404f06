use Rattle.std.proofs.Common.{map, ap}
use Rattle.spec_ir.specs.Views.{specification}
use Rattle.abstract_value_laws.specs.Abs.{parts}
use Rattle.abstract_value.specs.View.{abs}
use Rattle.domain_product_states.specs.Parts.{first_parts, second_parts}
use Rattle.domain_product_states.specs.Views.{seen}
use Rattle.domain_product_states.proofs.Seen.{apart_seen, together_seen}
use Rattle.text_elements.specs.Parts.{CellsText, named_cells}
use Rattle.text_elements.proofs.Appending.{pair_appended}
use Rattle.text_elements.proofs.element.PairedStatesWriteElement.push_element.Goals as goal

pub returns-in-Together : goal.returns-in-Together
returns-in-Together g c =
    let spec = specification c.args.spec.now in
    let z = parts (map abs c.deref.result.now) in
    let here = together_seen c.args.x.now c.in-Together.values c.deref.result.now c.in-Together.is c.deref.ensures.value in
    pair_appended (CellsText g.A.NamedBase.named g.A.BaseText.texts) (CellsText g.B.NamedBase.named g.B.BaseText.texts) spec (seen c.args.x.now) c.push_together.result _ _
    (named_cells g.A.NamedBase.named g.A.BaseText.texts spec (first_parts z)) (named_cells g.B.NamedBase.named g.B.BaseText.texts spec (second_parts z))
    (ap (λ p. named_cells g.A.NamedBase.named g.A.BaseText.texts spec p.0) here) (ap (λ p. named_cells g.B.NamedBase.named g.B.BaseText.texts spec p.1) here) c.push_together.ensures

pub returns-in-Apart : goal.returns-in-Apart
returns-in-Apart g c =
    let spec = specification c.args.spec.now in
    let x = parts (map abs c.deref-in-Apart.result.now) in
    let y = parts (map abs c.deref-in-Apart-2.result.now) in
    let here = apart_seen c.args.x.now c.in-Apart.xs c.in-Apart.ys c.deref-in-Apart.result.now c.deref-in-Apart-2.result.now c.in-Apart.is c.deref-in-Apart.ensures.value c.deref-in-Apart-2.ensures.value in
    pair_appended (CellsText g.A.NamedBase.named g.A.BaseText.texts) (CellsText g.B.NamedBase.named g.B.BaseText.texts) spec (seen c.args.x.now) c.push_apart.result _ _
    (named_cells g.A.NamedBase.named g.A.BaseText.texts spec x) (named_cells g.B.NamedBase.named g.B.BaseText.texts spec y)
    (ap (λ p. named_cells g.A.NamedBase.named g.A.BaseText.texts spec p.0) here) (ap (λ p. named_cells g.B.NamedBase.named g.B.BaseText.texts spec p.1) here) c.push_apart.ensures

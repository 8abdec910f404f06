use Rattle.std.proofs.Common.{◌≡◌, length, sym, ap, subst, ◌∙◌, rules}
use Rattle.code_image.specs.declared.order.Order.TheVariants.{Big}
use Rattle.text_lines.specs.Lines.{lines}
use Rattle.text_table_reader.specs.declared.head.Place.TheVariants.{Code}
use Rattle.text_table_reader.specs.Heads.{exact}
use Rattle.text_table_reader.specs.Views.{Leaves}
use Rattle.text_table_reader.proofs.CodeLines.{one_segment}
use Rattle.text_table_reader.proofs.head.read_one.Goals as goal

pub returns-then-eq : goal.returns-then-eq
returns-then-eq c =
    let image = c.args.image.now in
    let big : image.order ≡ Big = search rules in
    let one : length image.segments ≡ 1 = sym c.segments.ensures ∙ c.if-segments-eq1.true in
    subst (Leaves c.expect_line.result)
    (ap (λ wanted. exact wanted Code (lines c.args.text.now)) (c.as_bytes.ensures.value ∙ c.in_ok-wanted.ensures)
    ∙ sym (one_segment image.order image.segments c.base_at.result c.words_at.result big one c.base_at.ensures c.words_at.ensures (lines c.args.text.now)))
    c.expect_line.ensures

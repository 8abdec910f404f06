use Rattle.std.proofs.Common.{◌+◌, ◌/◌, ◌^◌, drop, get_or, shr-shr, ap, sym, ◌∙◌}
use Rattle.std.proofs.lemmas.List.{drop_more as drop_from}
use Rattle.spec_ir.specs.declared.row.WordPart.TheVariants.{Fixed}
use Rattle.semantics.specs.Decode.{part_width, width_sum}
use Rattle.code_image.proofs.bits.higher_bits.Goals as goal

pub loop-part-preserved : goal.loop-part-preserved
loop-part-preserved c =
    let parts = c.args.parts.now in
    let k = c.loop-part.part-index in
    let left = c.loop-part.left in
    let x = get_or parts k (Fixed 0 0) in
    let rest = width_sum (drop (k + 1) parts) in
    let front = ap (λ w. left / 2 ^ width_sum w) (drop_from parts k (Fixed 0 0) c.loop-part-test.true) in
    let took = c.without_low-left.ensures ∙ ap (λ w. left / 2 ^ w) c.part_width.ensures in
    ap (λ n. n / 2 ^ rest) took ∙ shr-shr left (part_width x) rest ∙ sym front ∙ c.loop-part.invariant

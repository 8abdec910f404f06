use Rattle.std.proofs.Common.{◌≡◌, suc, ◌+◌, ◌-◌, ◌<◌, Some, length, drop, arith, ap, sym, ◌∙◌, subst}
use Rattle.std.specs.Prelude.{slice_get}
use Rattle.std.proofs.lemmas.Option.{slice_get-get_or}
use Rattle.spec_ir.specs.declared.row.WordPart.TheVariants.{Fixed}
use Rattle.semantics.specs.Decode.{part_width, width_sum}
use Rattle.code_image.specs.Tree.{bit}
use Rattle.code_image.proofs.WordBits.{fixed_here}
use Rattle.code_image.proofs.bits.fixed_bit.Goals as goal

pub returns-in-Fixed : goal.returns-in-Fixed
returns-in-Fixed c = λ code agree.
    let parts = c.args.parts.now in
    let left = c.loop-i.left in
    let i = c.loop-i.i - 1 in
    let last : suc i ≡ c.loop-i.i = omega (arith, c.loop-i-test.true) in
    let inside : i < length parts = omega (arith, c.loop-i.invariant.within) in
    let at : slice_get parts i ≡ Some (Fixed c.in-Fixed.v c.in-Fixed.w) = slice_get-get_or parts i (Fixed 0 0) inside ∙ ap Some c.in-Fixed.is in
    let width : left < c.in-Fixed.w = subst (λ w. left < w) (c.part_width-w.ensures ∙ ap part_width c.in-Fixed.is) c.if-left-w.true in
    let place : c.args.n ≡ left + width_sum (drop (suc i) parts) = c.loop-i.invariant.place ∙ ap (λ k. left + width_sum (drop k parts)) (sym last) in
    ap (bit code) place ∙ fixed_here parts i c.in-Fixed.v c.in-Fixed.w left code at width agree ∙ sym c.has_bit.ensures

use Rattle.std.proofs.Common.{◌≡◌, ℕ, List, ◌∷◌, ◌++◌, take, drop, sym, ◌∙◌, ap, map, refl}
use Rattle.code_image.specs.Image.{Segment, placed}
use Rattle.code_image.specs.Views.{segment_of}
use Rattle.code_image.proofs.Placing.{map-insert}
use Rattle.code_image.proofs.segment.place.Goals as goal

pub returns : goal.returns
returns c =
    let old = map segment_of c.args.segments.now.items in
    let i = c.first_above-place.result in
    let put = map-insert c.args.segments.now.items i (record { base = c.args.s.now.base; bytes = c.in_ok-from_slice.field-0 }) in
    let make : List ℕ → Segment = λ b. record { base = c.args.s.now.base; bytes = b } in
    let bytes = c.in_ok-from_slice.ensures.items ∙ c.deref.ensures.value in
    let at : placed (segment_of c.args.s.now) old ≡ take i old ++ segment_of c.args.s.now ∷ drop i old = rw c.deref-2.ensures.value at (c.first_above-place.ensures.place (segment_of c.args.s.now) refl) in
    ap (map segment_of) c.in_ok-insert.ensures.items ∙ put ∙ ap (λ b. take i old ++ make b ∷ drop i old) bytes ∙ sym at

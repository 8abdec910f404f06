use Rattle.std.proofs.Common.{ap, arith}
use Rattle.code_image.specs.Image as image
use Rattle.code_image.proofs.Sizes.{within, asked_at, bytes_at}
use Rattle.code_image.proofs.image.Image.words_at.Goals as goal

pub word_count-requires : goal.word_count-requires
word_count-requires c =
    let h = within c.self.inside.segments.items c.args.self.now.segments c.args.i (ap (λ i. i.segments) c.self.view_is) c.requires in
    omega (arith, c.self.invariant.segments.size, bytes_at c.self.inside.segments.items c.args.i c.index.result.now c.index.ensures h)

pub returns : goal.returns
returns c =
    let h = within c.self.inside.segments.items c.args.self.now.segments c.args.i (ap (λ i. i.segments) c.self.view_is) c.requires in
    rw (c.word_count.ensures, ← c.self.view_is) (asked_at image.words_of c.self.inside.segments.items c.args.i c.index.result.now c.index.ensures h)

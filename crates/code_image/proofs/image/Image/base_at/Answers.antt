use Rattle.std.proofs.Common.{ap}
use Rattle.code_image.proofs.Sizes.{within, asked_at}
use Rattle.code_image.proofs.image.Image.base_at.Goals as goal

pub returns : goal.returns
returns c = rw (← c.self.view_is) (asked_at (λ s. s.base) c.self.inside.segments.items c.args.i c.index.result.now c.index.ensures (within c.self.inside.segments.items c.args.self.now.segments c.args.i (ap (λ i. i.segments) c.self.view_is) c.requires))

use Rattle.std.proofs.Common.{◌∙◌, ap}
use Rattle.domain_cuts.proofs.Cutting.{cut_is}
use Rattle.domain_cuts.proofs.maps.cut_at.Goals as goal

pub returns : goal.returns
returns g c =
    let cell = c.in_ok-cell.cell in
    cut_is g.B.Base.algebra g.B.CutBase.cuts c.args.ctx.now g.B.Base.CAP c.args.m.now c.args.key c.args.low c.args.high c.with_word_at.result (record { word = cell.0; note = cell.1 }) c.in_ok-left.left c.with_word_at.ensures (c.in_ok-left.ensures.value ∙ ap (λ w. g.B.CutBase.cuts.meet c.args.ctx.now w cell.0 c.args.low c.args.high) c.width.ensures) c.in_ok-cell.ensures.value

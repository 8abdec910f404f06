use Rattle.std.proofs.Common.{◌-◌, ◌^◌, min, ap, sym, subst, ◌∙◌}
use Rattle.word_operations.specs.Width.{IsWidth}
use Rattle.abstract_value.proofs.OfValues.{cell_word_fits, rest_word_fits, sum_capped}
use Rattle.abstract_value.proofs.rank.map_rank.Goals as goal

pub loop-place-preserved : goal.loop-place-preserved
loop-place-preserved g c =
    let rank = g.B.Base.algebra.words.rank c.args.ctx.now c.args.m.now.width in
    sum_capped (λ e. rank e.1.word) c.args.m.now.cells c.loop-place.place _ (rank c.args.m.now.rest.word) c.loop-place.sum c.rank.result c.saturating_add-sum.result (2 ^ 64 - 1) c.cell_at.ensures c.loop-place.invariant (c.rank.ensures.value ∙ ap (λ w. min (g.B.Base.algebra.words.rank c.args.ctx.now w c.cell_at.result.0.now) (2 ^ 64 - 1)) c.width-in-loop-place.ensures) c.saturating_add-sum.ensures

pub rank-sum-requires : goal.rank-sum-requires
rank-sum-requires g c =
    let fit = c.requires.fits in
    record {
      width = subst (λ w. IsWidth w) (sym c.width.ensures) fit.width;
      word = rest_word_fits g.B.Base.algebra c.args.ctx.now g.B.Base.CAP c.args.m.now c.width.result c.width.ensures fit (record { word = c.rest.result.0.now; note = c.rest.result.1.now }) c.rest.ensures;
    }

pub rank-requires : goal.rank-requires
rank-requires g c =
    let fit = c.requires.fits in
    record {
      width = subst (λ w. IsWidth w) (sym c.width-in-loop-place.ensures) fit.width;
      word = cell_word_fits g.B.Base.algebra c.args.ctx.now g.B.Base.CAP c.args.m.now c.width-in-loop-place.result c.width-in-loop-place.ensures fit c.loop-place.place _ (record { word = c.cell_at.result.0.now; note = c.cell_at.result.1.now }) c.cell_at.ensures;
    }

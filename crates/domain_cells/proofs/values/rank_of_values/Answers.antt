use Rattle.std.proofs.Common.{◌+◌, ◌-◌, ◌^◌, drop, map, arith}
use Rattle.abstract_value_laws.specs.Abs.{parts}
use Rattle.domain_laws.specs.Calls.{values_rank}
use Rattle.abstract_value_laws.specs.Ranks.{leaf_rank}
use Rattle.abstract_value.specs.View.{abs}
use Rattle.abstract_value.proofs.Merging.{parts_fit_here}
use Rattle.domain_cells.proofs.Lists.{rank_end, rank_more}
use Rattle.domain_cells.proofs.values.rank_of_values.Goals as goal
use Rattle.spec_match_compiler.proofs.Loops.{drop_here}

pub rank-requires : goal.rank-requires
rank-requires g c = record { fits = (parts_fit_here g.B.Base.algebra c.args.ctx.now g.B.Base.CAP c.args.values.now c.loop-value.value-index c.value-item.result c.value-item.is c.loop-value-test.true c.loop-value.invariant.fits).0 }

pub loop-value-preserved : goal.loop-value-preserved
loop-value-preserved g c =
    let b = g.B.Base.algebra in
    let ctx = c.args.ctx.now in
    let e = drop_here c.args.values.now c.loop-value.value-index c.value-item.result c.value-item.is c.loop-value-test.true in
    let h = rw e at c.loop-value.invariant in
    record {
      whole = rank_more c.loop-value.sum (leaf_rank b ctx (abs c.value-item.result)) (values_rank b ctx (parts (map abs (drop (c.loop-value.value-index + 1) c.args.values.now)))) (2 ^ 64 - 1)
          c.rank.result c.saturating_add-sum.result _ c.rank.ensures c.saturating_add-sum.ensures h.whole;
      bound = let n = c.saturating_add-sum.ensures in omega (arith, n);
      fits = h.fits.1;
    }

pub returns : goal.returns
returns g c = rank_end g.B.Base.algebra c.args.ctx.now c.args.values.now c.loop-value.value-index c.loop-value.sum _ c.loop-value.invariant.bound c.loop-value-test.false c.loop-value.invariant.whole

use Rattle.base_product.proofs.PairParts.{beside_fits, beside_is}
use Rattle.base_product.proofs.base.PairedBase.range.Goals as goal

pub returns : goal.returns
returns g c = record {
  value = rw (← c.ctx.view_is) (beside_is c.range.result c.range-2.result c.pair_results.result _ _ c.pair_results.ensures c.range.ensures.value c.range-2.ensures.value);
  fits = rw (← c.ctx.view_is) (beside_fits c.range.result c.range-2.result c.pair_results.result _ _ c.pair_results.ensures c.range.ensures.fits c.range-2.ensures.fits);
}

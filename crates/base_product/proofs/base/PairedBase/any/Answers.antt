use Rattle.base_product.proofs.PairParts.{beside_fits, beside_is}
use Rattle.base_product.proofs.base.PairedBase.any.Goals as goal

pub returns : goal.returns
returns g c = record {
  value = rw (← c.ctx.view_is) (beside_is c.any.result c.any-2.result c.pair_results.result _ _ c.pair_results.ensures c.any.ensures.value c.any-2.ensures.value);
  fits = rw (← c.ctx.view_is) (beside_fits c.any.result c.any-2.result c.pair_results.result _ _ c.pair_results.ensures c.any.ensures.fits c.any-2.ensures.fits);
}

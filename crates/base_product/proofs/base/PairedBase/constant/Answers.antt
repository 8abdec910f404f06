use Rattle.base_product.proofs.PairParts.{beside_fits, beside_is}
use Rattle.base_product.proofs.base.PairedBase.constant.Goals as goal

pub returns : goal.returns
returns g c = record {
  value = rw (← c.ctx.view_is) (beside_is c.constant.result c.constant-2.result c.pair_results.result _ _ c.pair_results.ensures c.constant.ensures.value c.constant-2.ensures.value);
  fits = rw (← c.ctx.view_is) (beside_fits c.constant.result c.constant-2.result c.pair_results.result _ _ c.pair_results.ensures c.constant.ensures.fits c.constant-2.ensures.fits);
}

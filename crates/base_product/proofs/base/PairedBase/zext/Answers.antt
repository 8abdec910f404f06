use Rattle.base_product.proofs.PairParts.{beside_fits, beside_is}
use Rattle.base_product.proofs.base.PairedBase.zext.Goals as goal

pub returns : goal.returns
returns g c = record {
  value = rw (← c.ctx.view_is, ← c.x.view_is) (beside_is c.zext.result c.zext-2.result c.pair_results.result _ _ c.pair_results.ensures c.zext.ensures.value c.zext-2.ensures.value);
  fits = rw (← c.ctx.view_is) (beside_fits c.zext.result c.zext-2.result c.pair_results.result _ _ c.pair_results.ensures c.zext.ensures.fits c.zext-2.ensures.fits);
}

use Rattle.base_product.proofs.PairParts.{beside_fits, beside_is}
use Rattle.base_product.proofs.base.PairedBase.sext.Goals as goal

pub returns : goal.returns
returns g c = record {
  value = rw (← c.ctx.view_is, ← c.x.view_is) (beside_is c.sext.result c.sext-2.result c.pair_results.result _ _ c.pair_results.ensures c.sext.ensures.value c.sext-2.ensures.value);
  fits = rw (← c.ctx.view_is) (beside_fits c.sext.result c.sext-2.result c.pair_results.result _ _ c.pair_results.ensures c.sext.ensures.fits c.sext-2.ensures.fits);
}

use Rattle.base_product.proofs.PairParts.{beside_fits, beside_is}
use Rattle.base_product.proofs.base.PairedBase.trunc.Goals as goal

pub returns : goal.returns
returns g c = record {
  value = rw (← c.ctx.view_is, ← c.x.view_is) (beside_is c.trunc.result c.trunc-2.result c.pair_results.result _ _ c.pair_results.ensures c.trunc.ensures.value c.trunc-2.ensures.value);
  fits = rw (← c.ctx.view_is) (beside_fits c.trunc.result c.trunc-2.result c.pair_results.result _ _ c.pair_results.ensures c.trunc.ensures.fits c.trunc-2.ensures.fits);
}

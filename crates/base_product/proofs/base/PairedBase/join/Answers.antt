use Rattle.base_product.proofs.PairParts.{beside_fits, beside_is}
use Rattle.base_product.proofs.base.PairedBase.join.Goals as goal

pub returns : goal.returns
returns g c = record {
  value = rw (← c.ctx.view_is, ← c.x.view_is, ← c.y.view_is) (beside_is c.join.result c.join-2.result c.pair_results.result _ _ c.pair_results.ensures c.join.ensures.value c.join-2.ensures.value);
  fits = rw (← c.ctx.view_is) (beside_fits c.join.result c.join-2.result c.pair_results.result _ _ c.pair_results.ensures c.join.ensures.fits c.join-2.ensures.fits);
}

use Rattle.base_product.proofs.PairParts.{beside_fits, beside_is}
use Rattle.base_product.proofs.base.PairedBase.op1.Goals as goal

pub returns : goal.returns
returns g c = record {
  value = rw (← c.ctx.view_is, ← c.x.view_is) (beside_is c.op1.result c.op1-2.result c.pair_results.result _ _ c.pair_results.ensures c.op1.ensures.value c.op1-2.ensures.value);
  fits = rw (← c.ctx.view_is) (beside_fits c.op1.result c.op1-2.result c.pair_results.result _ _ c.pair_results.ensures c.op1.ensures.fits c.op1-2.ensures.fits);
}

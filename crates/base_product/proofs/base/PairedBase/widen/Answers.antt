use Rattle.base_product.proofs.PairParts.{beside_fits, beside_is}
use Rattle.base_product.proofs.base.PairedBase.widen.Goals as goal

pub returns : goal.returns
returns g c = record {
  value = rw (← c.ctx.view_is, ← c.old.view_is, ← c.new.view_is) (beside_is c.widen.result c.widen-2.result c.pair_results.result _ _ c.pair_results.ensures c.widen.ensures.value c.widen-2.ensures.value);
  fits = rw (← c.ctx.view_is) (beside_fits c.widen.result c.widen-2.result c.pair_results.result _ _ c.pair_results.ensures c.widen.ensures.fits c.widen-2.ensures.fits);
}

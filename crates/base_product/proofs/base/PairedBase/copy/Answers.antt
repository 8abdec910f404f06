use Rattle.base_product.proofs.PairParts.{beside_is}
use Rattle.base_product.proofs.base.PairedBase.copy.Goals as goal

pub returns : goal.returns
returns g c = record {
  value = rw (← c.x.view_is) (beside_is c.copy.result c.copy-2.result c.pair_results.result _ _ c.pair_results.ensures c.copy.ensures.value c.copy-2.ensures.value);
}

use Rattle.domain_affine_elements.proofs.Adding.{rank_is}
use Rattle.domain_affine_elements.proofs.order.rank.Goals as goal

pub returns : goal.returns
returns c = rank_is c.args.x.now.k c.args.x.now.rows c.rank.result c.rank.ensures

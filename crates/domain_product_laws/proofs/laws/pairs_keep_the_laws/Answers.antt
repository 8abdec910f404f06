use Rattle.domain_product_laws.proofs.Domain.{pairs_keep_the_laws}
use Rattle.domain_product_laws.proofs.laws.pairs_keep_the_laws.Goals as goal

pub returns : goal.returns
returns g c = λ cap. pairs_keep_the_laws g.A.B.Base.algebra g.B.B.Base.algebra g.met.A.B.Base.laws g.met.B.B.Base.laws cap (g.A.Domain.meaning c.args.first.now) (g.B.Domain.meaning c.args.second.now)
    (g.A.Domain.elements c.args.first.now) (g.B.Domain.elements c.args.second.now)

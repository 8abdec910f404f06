use Rattle.domain_product_laws.proofs.Domain.{pairs_are_domains}
use Rattle.domain_product_laws.proofs.laws.pairs_are_domains.Goals as goal

pub returns : goal.returns
returns g c = λ spec p q may. pairs_are_domains g.A.B.Base.algebra g.B.B.Base.algebra g.met.A.B.Base.laws g.met.B.B.Base.laws g.A.B.Base.CAP g.B.B.Base.CAP (g.A.Domain.meaning c.args.first.now) (g.B.Domain.meaning c.args.second.now)
    (g.A.Domain.elements c.args.first.now) (g.B.Domain.elements c.args.second.now) spec g.met.A.B.Base.capacity g.met.B.B.Base.capacity may
    (g.met.A.Domain.laws c.args.first.now spec p) (g.met.B.Domain.laws c.args.second.now spec q)

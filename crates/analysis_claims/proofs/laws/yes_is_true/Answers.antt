use Rattle.analysis_claims.proofs.Tables.{yes_is_true}
use Rattle.analysis_claims.proofs.laws.yes_is_true.Goals as goal

pub returns : goal.returns
returns g c = yes_is_true g.D.Domain.view (g.D.Domain.elements c.args.domain.now) g.D.B.Base.algebra (g.D.ClaimElement.telling c.args.domain.now)

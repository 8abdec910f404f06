use Rattle.std.proofs.Common.{rules}
use Rattle.spec_ir.specs.Views.{specification}
use Rattle.domain_affine.proofs.Fitting.{opened_requires}
use Rattle.domain_affine.proofs.domain.AffineDomainDomain.open.Goals as goal

pub open_state-requires : goal.open_state-requires
open_state-requires c = record { fits = opened_requires c.args.self.now (specification c.args._spec.now) c.requires.made _ _ _ c.args.x.now.rows (search rules) (search rules) (search rules) }

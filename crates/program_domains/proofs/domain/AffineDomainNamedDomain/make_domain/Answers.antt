use Rattle.std.proofs.lemmas.Result.{IfOk-weaker}
use Rattle.program_domains.proofs.domain.AffineDomainNamedDomain.make_domain.Goals as goal

pub returns-clause-context : goal.returns-clause-context
returns-clause-context c = IfOk-weaker c.new.result _ _ (λ r e. tt) c.new.ensures.made

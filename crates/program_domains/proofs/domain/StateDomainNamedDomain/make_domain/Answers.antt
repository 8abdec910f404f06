use Rattle.std.proofs.Common.{◌∙◌}
use Rattle.std.proofs.lemmas.Result.{IfOk-weaker}
use Rattle.program_domains.proofs.domain.StateDomainNamedDomain.make_domain.Goals as goal

pub returns-clause-context : goal.returns-clause-context
returns-clause-context g c = IfOk-weaker c.new.result _ _ (λ r e. e ∙ c.context.ensures) c.new.ensures.context

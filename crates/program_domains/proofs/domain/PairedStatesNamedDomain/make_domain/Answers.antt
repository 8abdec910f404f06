use Rattle.std.proofs.Common.{ap, ◌∙◌}
use Rattle.program_domains.proofs.domain.PairedStatesNamedDomain.make_domain.Goals as goal

pub returns-clause-context : goal.returns-clause-context
returns-clause-context g c = (ap (λ k. k.0) c.in_ok-states.ensures.context ∙ c.context.ensures, ap (λ k. k.1) c.in_ok-states.ensures.context ∙ c.context-2.ensures)

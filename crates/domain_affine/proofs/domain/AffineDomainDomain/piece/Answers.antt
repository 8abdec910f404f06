use Rattle.std.proofs.Common.{◌≡◌, IfOk, rules, subst}
use Rattle.domain_affine_element_laws.specs.Elements.{SameMembers}
use Rattle.domain_affine_laws.specs.Calls.{cell_count}
use Rattle.domain_affine.proofs.domain.AffineDomainDomain.piece.Goals as goal

pub returns-clause-value : goal.returns-clause-value
returns-clause-value c =
    let count : c.cell_count.result ≡ cell_count c.args.self.now = search rules in
    subst (λ k. SameMembers k c.in_ok-copy.field-0.rows c.args.x.now.rows) count c.in_ok-copy.ensures.members

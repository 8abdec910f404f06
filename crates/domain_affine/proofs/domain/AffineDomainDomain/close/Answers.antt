use Rattle.std.proofs.Common.{◌≡◌, IfOk, rules, subst}
use Rattle.spec_ir.specs.Views.{specification}
use Rattle.domain_laws.specs.Calls.{fields_of}
use Rattle.domain_affine_element_laws.specs.Closed.{closed_of}
use Rattle.domain_affine_element_laws.specs.Elements.{SameMembers}
use Rattle.domain_affine_laws.specs.Calls.{cell_count}
use Rattle.domain_affine_laws.specs.Closed.{closed_words}
use Rattle.domain_affine_laws.specs.Tracked.{tracked_cells}
use Rattle.abstract_value.specs.View.{abs}
use Rattle.domain_affine.proofs.Fitting.{close_requires}
use Rattle.domain_affine.proofs.domain.AffineDomainDomain.close.Goals as goal

pub close_cells-requires-clause-fit : goal.close_cells-requires-clause-fit
close_cells-requires-clause-fit c =
    close_requires c.args.self.now (specification c.args._spec.now) c.requires.made (abs c.args.value.now) c.requires.state c.cell_count.result c.deref.result.now (search rules) (search rules)

pub returns-clause-value : goal.returns-clause-value
returns-clause-value c =
    let count : c.cell_count.result ≡ cell_count c.args.self.now = search rules in
    let owed = closed_words (tracked_cells c.args.self.now) (fields_of (abs c.args.value.now)) in
    let words : c.deref.result.now ≡ closed_words (tracked_cells c.args.self.now) (fields_of (abs c.args.value.now)) = search rules in
    subst (λ k. IfOk c.close_cells.result (λ r. SameMembers k r.rows (closed_of k owed c.args.before.now).rows)) count
    (subst (λ ws. IfOk c.close_cells.result (λ r. SameMembers c.cell_count.result r.rows (closed_of c.cell_count.result ws c.args.before.now).rows)) words c.close_cells.ensures.members)

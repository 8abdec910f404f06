use Rattle.std.proofs.Common.{◌≡◌, IfOk, rules, subst}
use Rattle.spec_ir.specs.Views.{specification}
use Rattle.domain_affine_element_laws.specs.Elements.{SameMembers}
use Rattle.domain_affine_element_laws.specs.Entry.{entry_of}
use Rattle.domain_affine_laws.specs.Calls.{cell_count}
use Rattle.domain_affine_laws.specs.Entry.{entry_words}
use Rattle.domain_affine_laws.specs.Tracked.{tracked_cells}
use Rattle.domain_affine.proofs.Fitting.{entry_requires}
use Rattle.domain_affine.proofs.domain.AffineDomainDomain.entry.Goals as goal

pub entry_cells-requires-clause-fit : goal.entry_cells-requires-clause-fit
entry_cells-requires-clause-fit c =
    entry_requires c.args.self.now (specification c.args._spec.now) c.requires.made c.cell_count.result c.deref-3.result.now c.args.e.now.lines.items c.requires.lines (search rules) (search rules)

pub returns-clause-value : goal.returns-clause-value
returns-clause-value c =
    let count : c.cell_count.result ≡ cell_count c.args.self.now = search rules in
    let words : c.deref-3.result.now ≡ entry_words c.args.e.now.lines.items c.args.self.now.fields (tracked_cells c.args.self.now) = search rules in
    subst (λ k. IfOk c.entry_cells.result (λ r. SameMembers k r.rows (entry_of k (entry_words c.args.e.now.lines.items c.args.self.now.fields (tracked_cells c.args.self.now))).rows)) count
    (subst (λ ws. IfOk c.entry_cells.result (λ r. SameMembers c.cell_count.result r.rows (entry_of c.cell_count.result ws).rows)) words c.entry_cells.ensures.members)

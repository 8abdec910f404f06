use Rattle.std.proofs.Common.{◌++◌, subst}
use Rattle.domain_affine_element_laws.specs.Elements.{SameMembers}
use Rattle.domain_affine_element_laws.proofs.Elements.{joins_same}
use Rattle.domain_affine_elements.proofs.joins.join.Goals as goal

pub returns-clause-members : goal.returns-clause-members
returns-clause-members c x =
    let added = subst (λ k. SameMembers k c.add_rows.new.into.rows (c.in_ok-rows.rows.rows ++ c.args.y.now.rows)) c.requires.right c.add_rows.ensures.members x in
    let both = joins_same c.args.k c.in_ok-rows.rows.rows c.args.x.now.rows c.args.y.now.rows c.args.y.now.rows c.in_ok-rows.ensures.members (λ y. (λ h. h, λ h. h)) x in
    (λ h. both.0 (added.0 h), λ h. added.1 (both.1 h))

use Rattle.std.proofs.Common.{◌+◌, drop, sym, ap, ◌∙◌}
use Rattle.std.specs.Prelude.{◌&&◌}
use Rattle.domain_affine_element_laws.specs.Membership.{are_members}
use Rattle.domain_affine_elements.proofs.Adding.{members_next}
use Rattle.domain_affine_elements.proofs.order.absorbs.Goals as goal

pub returns-then-not-contains : goal.returns-then-not-contains
returns-then-not-contains c =
    let k = c.args.old.now.k in
    sym (c.loop-i.invariant
    ∙ members_next c.args.old.now.k c.args.old.now.rows c.args.new.now.rows c.loop-i.i c.row.result.now c.contains.result c.row.ensures.item c.contains.ensures
    ∙ ap (λ t. t && are_members c.args.old.now.k c.args.old.now.rows (drop (c.loop-i.i + 1) c.args.new.now.rows)) c.if-not-contains.true)

pub loop-i-preserved : goal.loop-i-preserved
loop-i-preserved c =
    c.loop-i.invariant
    ∙ members_next c.args.old.now.k c.args.old.now.rows c.args.new.now.rows c.loop-i.i c.row.result.now c.contains.result c.row.ensures.item c.contains.ensures
    ∙ ap (λ t. t && are_members c.args.old.now.k c.args.old.now.rows (drop (c.loop-i.i + 1) c.args.new.now.rows)) c.if-not-contains.false

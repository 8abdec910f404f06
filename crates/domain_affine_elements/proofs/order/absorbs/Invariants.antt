use Rattle.std.proofs.Common.{◌≡◌, drop}
use Rattle.domain_affine_element_laws.specs.Membership.{are_members}
use Rattle.domain_affine_elements.proofs.order.absorbs.Given as goal

abbrev pub invariant-loop-i : goal.invariant-loop-i
invariant-loop-i l = are_members l.old.k l.old.rows l.new.rows ≡ are_members l.old.k l.old.rows (drop l.i l.new.rows)

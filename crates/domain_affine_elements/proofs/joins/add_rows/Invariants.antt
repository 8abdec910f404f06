use Rattle.std.proofs.Common.{◌≡◌, ◌++◌, take}
use Rattle.domain_affine_element_laws.specs.Elements.{SameMembers}
use Rattle.domain_affine_elements.proofs.joins.add_rows.Given as goal

abbrev pub invariant-loop-i : goal.invariant-loop-i
invariant-loop-i l = record { same : l.into.k ≡ l.x.k; members : SameMembers l.x.k l.into.rows (l.initial.into.rows ++ take l.i l.x.rows) }

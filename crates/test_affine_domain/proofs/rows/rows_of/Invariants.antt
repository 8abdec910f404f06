use Rattle.std.proofs.Common.{◌≡◌}
use Rattle.test_affine_domain.proofs.rows.rows_of.Given as goal

abbrev pub invariant-loop-part : goal.invariant-loop-part
invariant-loop-part l = (goal.iterator-loop-part).can_next l.part-iterator × (goal.iterator-loop-part).is_finite l.part-iterator × (l.rows.k ≡ l.k)

use Rattle.std.proofs.Common.{◌≡◌, drop}
use Rattle.base_defuse.specs.Instance.{same_notes}
use Rattle.base_defuse.proofs.stamps.are_same.Given as goal

abbrev pub invariant-loop-i : goal.invariant-loop-i
invariant-loop-i l = same_notes l.xs l.ys ≡ same_notes (drop l.i l.xs) (drop l.i l.ys)

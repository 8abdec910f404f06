use Rattle.std.proofs.Common.{length}
use Rattle.support_modular_rows.proofs.Growth.{Absorbing}
use Rattle.support_modular_rows.proofs.slots.absorb.Given as goal

abbrev pub invariant-loop-i : goal.invariant-loop-i
invariant-loop-i l = Absorbing (length l.initial.rows) l.fn.row l.initial.rows l.rows l.x l.i

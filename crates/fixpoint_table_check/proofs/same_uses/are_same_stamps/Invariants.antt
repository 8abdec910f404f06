use Rattle.std.proofs.Common.{◌≡◌, length, take}
use Rattle.fixpoint_table_check.proofs.same_uses.are_same_stamps.Given as goal

abbrev pub invariant-loop-i : goal.invariant-loop-i
invariant-loop-i l = record { so_far : take l.i l.x ≡ take l.i l.y; long : length l.x ≡ length l.y }

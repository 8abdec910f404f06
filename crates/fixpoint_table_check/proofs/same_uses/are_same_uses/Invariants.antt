use Rattle.std.proofs.Common.{◌≡◌, length, map, take}
use Rattle.base_trait.specs.Uses.{seen}
use Rattle.fixpoint_table_check.proofs.same_uses.are_same_uses.Given as goal

abbrev pub invariant-loop-i : goal.invariant-loop-i
invariant-loop-i l = record { so_far : map seen (take l.i l.x) ≡ map seen (take l.i l.y); long : length l.x ≡ length l.y }

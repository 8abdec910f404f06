use Rattle.std.proofs.Common.{◌*◌, ◌≤◌}
use Rattle.support_modular_rows.proofs.Ranks.{FirstExponents}
use Rattle.support_modular_rows.proofs.slots.exponents.Given as goal

abbrev pub invariant-loop-c : goal.invariant-loop-c
invariant-loop-c l = record { few : l.total ≤ 32 * l.c; all : FirstExponents l.rows l.c l.total }

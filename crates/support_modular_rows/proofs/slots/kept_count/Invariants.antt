use Rattle.std.proofs.Common.{◌≡◌, ◌+◌, ◌≤◌, length, drop}
use Rattle.support_modular_rows.specs.Reduction.{kept_from}
use Rattle.support_modular_rows.proofs.slots.kept_count.Given as goal

abbrev pub invariant-loop-c : goal.invariant-loop-c
invariant-loop-c l = record {
  few : l.count ≤ l.c;
  rest : l.count + length (kept_from (length l.rows) l.c (drop l.c l.rows)) ≡ length (kept_from (length l.rows) 0 l.rows);
}

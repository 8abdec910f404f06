use Rattle.std.proofs.Common.{◌≡◌, ◌-◌, ◌≤◌, length, drop}
use Rattle.support_modular_rows.specs.Reduction.{kept_from}
use Rattle.support_modular_rows.proofs.slots.kept_place.Given as goal

abbrev pub invariant-loop-back : goal.invariant-loop-back
invariant-loop-back l = record {
  few : l.seen ≤ l.i;
  seen : l.seen ≡ length (kept_from (length l.rows) (length l.rows - l.back) (drop (length l.rows - l.back) l.rows));
}

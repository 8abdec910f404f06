use Rattle.std.proofs.Common.{◌≡◌, ◌+◌}
use Rattle.support_modular_rows.specs.Values.{Forgotten}
use Rattle.support_modular_rows.proofs.forms.forget.Given as goal

abbrev pub invariant-loop-cell : goal.invariant-loop-cell
invariant-loop-cell l = record {
  same : l.into.k ≡ l.initial.into.k;
  cells : Forgotten l.forms (l.initial.into.k + 1) l.cell l.initial.into.rows l.into.rows;
}

use Rattle.std.proofs.Common.{◌≡◌, ◌+◌, take}
use Rattle.support_modular_rows.specs.Values.{Images}
use Rattle.support_modular_rows.proofs.forms.add_values.Given as goal

abbrev pub invariant-loop-i : goal.invariant-loop-i
invariant-loop-i l = record {
  same : l.into.k ≡ l.initial.into.k;
  images : Images (l.from.k + 1) l.forms (take l.i l.from.rows) l.into.rows;
}

use Rattle.std.proofs.Common.{◌+◌, drop}
use Rattle.support_modular_rows.specs.Submodule.{Congruent, dot}
use Rattle.support_modular_rows.proofs.forms.Form.value.Given as goal

abbrev pub invariant-loop-i : goal.invariant-loop-i
invariant-loop-i l = Congruent (l.sum + dot (drop l.i l.form) (drop l.i l.row)) (dot l.form l.row)

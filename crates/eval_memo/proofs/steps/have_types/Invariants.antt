use Rattle.std.proofs.Common.{◌≡◌, map, drop}
use Rattle.spec_ir.specs.Views.{specification}
use Rattle.semantics_values.specs.Types.{environment_of}
use Rattle.abstract_value_laws.specs.Abs.{parts}
use Rattle.abstract_value_laws.specs.Types.{have_types}
use Rattle.abstract_value.specs.View.{abs}
use Rattle.eval_memo.proofs.steps.have_types.Given as goal

-- all have their types exactly where what is left has
abbrev pub invariant-loop-i : goal.invariant-loop-i
invariant-loop-i g l =
    let env = environment_of (specification l.spec) in
    have_types env (parts (map abs l.args)) l.params ≡ have_types env (parts (map abs (drop l.i l.args))) (drop l.i l.params)

use Rattle.std.proofs.Common.{◌≡◌, drop, length, map}
use Rattle.spec_ir.specs.Views.{specification}
use Rattle.semantics_values.specs.Types.{environment_of}
use Rattle.abstract_value_laws.specs.Abs.{parts}
use Rattle.abstract_value_laws.specs.Types.{have_types}
use Rattle.abstract_value.specs.View.{abs}
use Rattle.eval_group_turns.proofs.lists.have_types.Given as goal

abbrev pub invariant-loop-i : goal.invariant-loop-i
invariant-loop-i g l =
    let env = environment_of (specification l.spec) in
    record {
      lengths : length l.args ≡ length l.types;
      whole : have_types env (parts (map abs (drop l.i l.args))) (drop l.i l.types) ≡ have_types env (parts (map abs l.args)) l.types;
    }

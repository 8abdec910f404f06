use Rattle.std.proofs.Common.{◌≡◌, true, map, rules}
use Rattle.semantics_values.specs.Types.{environment_of}
use Rattle.abstract_value_laws.specs.Abs.{parts}
use Rattle.abstract_value_laws.specs.Types.{have_types}
use Rattle.abstract_value.specs.View.{abs}
use Rattle.eval_operations.proofs.Fitting.{parts_fit}
use Rattle.abstract_semantics.specs.Terms.{params_of}
use Rattle.eval_memo.specs.Settings.{spec_of}
use Rattle.test_evaluator.proofs.arguments.arguments.Goals as goal

pub returns-then-are_typed : goal.returns-then-are_typed
returns-then-are_typed g c =
    let spec = spec_of c.args.setting.now in
    let typed : have_types (environment_of spec) (parts (map abs c.in_ok-args.args.items)) (params_of spec c.args.function) ≡ true = search rules in
    record {
      typed = typed;
      fit = parts_fit g.B.Base.algebra c.args.setting.now.ctx.now g.B.Base.CAP c.in_ok-args.args.items c.in_ok-args.ensures;
    }

use Rattle.std.proofs.Common.{sym, subst}
use Rattle.abstract_semantics.specs.Calls.{AreArguments}
use Rattle.eval_memo.specs.Settings.{spec_of}
use Rattle.test_evaluator.proofs.called.push_call.Goals as goal

pub eval-given-requires-clause-args : goal.eval-given-requires-clause-args
eval-given-requires-clause-args g c =
    let setting = c.args.setting.now in
    subst (λ xs. AreArguments g.B.Base.algebra setting.ctx.now g.B.Base.CAP (spec_of setting) c.args.function xs) (sym c.in_ok-args.ensures) c.requires.args

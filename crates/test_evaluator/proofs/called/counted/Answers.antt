use Rattle.std.proofs.Common.{sym, subst}
use Rattle.evaluator.specs.Calls.{IsRight}
use Rattle.test_evaluator.proofs.called.counted.Goals as goal

pub push_calls-requires-clause-memo : goal.push_calls-requires-clause-memo
push_calls-requires-clause-memo g c = subst (λ es. IsRight g.B.Base.algebra g.B.Base.CAP c.args.setting.now es) (sym c.memo_new-memo.ensures) (record { true_of = tt; distinct = tt })

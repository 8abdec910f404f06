use Rattle.eval_memo.specs.Memos.{entries}
use Rattle.evaluator.proofs.Starting.{ready_by, stands_by}
use Rattle.evaluator.proofs.evaluation.eval.Goals as goal

pub evaluate_known-requires-clause-ready : goal.evaluate_known-requires-clause-ready
evaluate_known-requires-clause-ready g c = ready_by g.B.Base.algebra g.met.B.Base.laws g.B.Base.CAP g.met.B.Base.capacity c.args.setting.now c.requires.ready

pub evaluate_known-requires-clause-memo : goal.evaluate_known-requires-clause-memo
evaluate_known-requires-clause-memo g c = stands_by g.B.Base.algebra g.met.B.Base.laws g.B.Base.CAP g.met.B.Base.capacity c.args.setting.now (entries c.args.memo.now) c.args.steps.now c.requires.memo

pub returns-clause-value : goal.returns-clause-value
returns-clause-value g c = c.evaluate_known.ensures.value

pub returns-clause-memo : goal.returns-clause-memo
returns-clause-memo g c = record { true_of = c.evaluate_known.ensures.memo.true_of; distinct = c.evaluate_known.ensures.memo.distinct }

pub returns-clause-counted : goal.returns-clause-counted
returns-clause-counted g c = c.evaluate_known.ensures.memo.counted

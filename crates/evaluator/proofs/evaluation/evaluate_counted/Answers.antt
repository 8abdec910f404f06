use Rattle.evaluator.proofs.Starting.{ready_by}
use Rattle.evaluator.proofs.evaluation.evaluate_counted.Goals as goal

pub evaluate_unkept-value-requires-clause-ready : goal.evaluate_unkept-value-requires-clause-ready
evaluate_unkept-value-requires-clause-ready g c = ready_by g.B.Base.algebra g.met.B.Base.laws g.B.Base.CAP g.met.B.Base.capacity c.args.setting.now c.requires.ready

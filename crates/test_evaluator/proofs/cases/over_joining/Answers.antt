use Rattle.test_evaluator.proofs.Policies.{joins_under}
use Rattle.test_evaluator.proofs.cases.over_joining.Goals as goal

pub over-requires-clause-joins : goal.over-requires-clause-joins
over-requires-clause-joins g c = joins_under g.B.Base.algebra c.args.policy c.requires.joins

use Rattle.fixpoint_worklist.proofs.Pending.{first_least}
use Rattle.fixpoint_worklist.proofs.worklist.first.Goals as goal

pub returns-in-Some-clause-least : goal.returns-in-Some-clause-least
returns-in-Some-clause-least g c = first_least g.A.Analyser.view c.args.work.now c.in-Some.at.now c.requires c.in-Some.ensures.member c.in-Some.ensures.least

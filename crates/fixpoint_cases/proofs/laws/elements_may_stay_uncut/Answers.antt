use Rattle.fixpoint_cases.proofs.Pieces.{elements_may_stay_uncut}
use Rattle.fixpoint_cases.proofs.laws.elements_may_stay_uncut.Goals as goal

pub returns : goal.returns
returns g c = elements_may_stay_uncut (g.A.Analyser.analysis c.args.analyser.now).elements

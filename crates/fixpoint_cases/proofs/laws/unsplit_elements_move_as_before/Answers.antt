use Rattle.fixpoint_cases.proofs.ByCases.{unsplit_elements_move_as_before}
use Rattle.fixpoint_cases.proofs.laws.unsplit_elements_move_as_before.Goals as goal

pub returns : goal.returns
returns g c = unsplit_elements_move_as_before (g.A.Analyser.analysis c.args.analyser.now)

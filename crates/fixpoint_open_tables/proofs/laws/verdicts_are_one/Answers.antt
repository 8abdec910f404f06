use Rattle.fixpoint_open_tables.proofs.Verdicts.{verdicts_are_one}
use Rattle.fixpoint_open_tables.proofs.laws.verdicts_are_one.Goals as goal

pub returns : goal.returns
returns g c = verdicts_are_one (g.A.Analyser.analysis c.args.analyser.now)

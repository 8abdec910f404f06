use Rattle.text_round_trips.proofs.Fitting.{fitting_tables_are_of_code}
use Rattle.text_round_trips.proofs.laws.fitting_tables_are_of_code.Goals as goal

pub returns : goal.returns
returns g c = fitting_tables_are_of_code (g.A.Analyser.analysis c.args.analyser.now)

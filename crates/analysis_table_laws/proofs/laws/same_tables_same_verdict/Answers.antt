use Rattle.analysis_table_laws.proofs.Verdicts.{same_tables_same_verdict}
use Rattle.analysis_table_laws.proofs.laws.same_tables_same_verdict.Goals as goal

pub returns : goal.returns
returns g c = same_tables_same_verdict (g.A.Analyser.analysis c.args.analyser.now) (g.met.A.Analyser.laws c.args.analyser.now c.requires.ready)

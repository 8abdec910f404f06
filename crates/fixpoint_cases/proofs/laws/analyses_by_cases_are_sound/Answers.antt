use Rattle.fixpoint_cases.proofs.ByCases.{sound_by_cases}
use Rattle.fixpoint_cases.proofs.laws.analyses_by_cases_are_sound.Goals as goal

pub returns : goal.returns
returns g c = sound_by_cases (g.A.Analyser.analysis c.args.analyser.now) (g.A.Analyser.machine c.args.analyser.now)

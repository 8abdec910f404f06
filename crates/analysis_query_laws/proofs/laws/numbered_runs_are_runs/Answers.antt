use Rattle.analysis_query_laws.proofs.Slices.{numbered_runs_are_runs}
use Rattle.analysis_query_laws.proofs.laws.numbered_runs_are_runs.Goals as goal

pub returns : goal.returns
returns c = numbered_runs_are_runs

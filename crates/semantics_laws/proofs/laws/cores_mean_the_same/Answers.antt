use Rattle.semantics_laws.proofs.SameRuns.{cores_mean_the_same}
use Rattle.semantics_laws.proofs.laws.cores_mean_the_same.Goals as goal

pub returns : goal.returns
returns c = cores_mean_the_same

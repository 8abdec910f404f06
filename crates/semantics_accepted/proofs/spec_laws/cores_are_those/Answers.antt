use Rattle.semantics_accepted.proofs.Coring.{cores_are_those}
use Rattle.semantics_accepted.proofs.spec_laws.cores_are_those.Goals as goal

pub returns : goal.returns
returns c = cores_are_those

use Rattle.semantics_laws.proofs.Kept.{instructions_have_their_type}
use Rattle.semantics_laws.proofs.laws.instructions_have_their_type.Goals as goal

pub returns : goal.returns
returns c = instructions_have_their_type

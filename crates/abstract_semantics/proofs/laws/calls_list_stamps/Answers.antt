use Rattle.abstract_semantics.proofs.Listed.{calls_list_stamps}
use Rattle.abstract_semantics.proofs.laws.calls_list_stamps.Goals as goal

pub returns : goal.returns
returns g c = calls_list_stamps g.B.Base.algebra g.met.B.Base.laws

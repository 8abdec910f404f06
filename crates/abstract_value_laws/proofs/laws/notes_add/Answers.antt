use Rattle.abstract_value_laws.proofs.Noted.{notes_add}
use Rattle.abstract_value_laws.proofs.laws.notes_add.Goals as goal

pub returns : goal.returns
returns g c = notes_add g.B.Base.algebra

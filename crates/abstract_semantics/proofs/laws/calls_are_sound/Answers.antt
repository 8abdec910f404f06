use Rattle.abstract_semantics.proofs.SoundCalls.{calls_are_sound}
use Rattle.abstract_semantics.proofs.laws.calls_are_sound.Goals as goal

pub returns : goal.returns
returns g c = calls_are_sound g.B.Base.algebra g.met.B.Base.laws

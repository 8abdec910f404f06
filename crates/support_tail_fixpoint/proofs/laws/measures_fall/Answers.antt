use Rattle.support_tail_fixpoint.proofs.Measured.{measures_fall}
use Rattle.support_tail_fixpoint.proofs.laws.measures_fall.Goals as goal

pub returns : goal.returns
returns g c = measures_fall

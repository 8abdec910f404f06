use Rattle.program_laws.proofs.Agreement.{conversions_stay}
use Rattle.program_laws.proofs.laws.conversions_stay.Goals as goal

pub returns : goal.returns
returns c = conversions_stay

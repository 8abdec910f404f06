use Rattle.abstract_value_laws.proofs.Typed.{typed_fits}
use Rattle.abstract_value_laws.proofs.laws.typed_fits.Goals as goal

pub returns : goal.returns
returns c = typed_fits

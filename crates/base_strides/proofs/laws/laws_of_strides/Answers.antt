use Rattle.base_strides.specs.Instance.{strides_laws}
use Rattle.base_strides.proofs.laws.laws_of_strides.Goals as goal

pub returns : goal.returns
returns c = strides_laws

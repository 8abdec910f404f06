use Rattle.semantics_laws.proofs.Order.{cores_call_in_order}
use Rattle.semantics_laws.proofs.laws.cores_call_in_order.Goals as goal

pub returns : goal.returns
returns c = cores_call_in_order

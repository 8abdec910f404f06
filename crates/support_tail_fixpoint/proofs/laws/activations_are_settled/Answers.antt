use Rattle.support_tail_fixpoint.proofs.Settled.{activations_are_settled}
use Rattle.support_tail_fixpoint.proofs.laws.activations_are_settled.Goals as goal

pub returns : goal.returns
returns g c = activations_are_settled

use Rattle.concrete_calls.proofs.Single.{value_stands}
use Rattle.concrete_calls.proofs.laws.value_stands.Goals as goal

pub returns : goal.returns
returns c = value_stands

use Rattle.concrete_calls.proofs.Meant.{calls_are_meant}
use Rattle.concrete_calls.proofs.laws.calls_are_meant.Goals as goal

pub returns : goal.returns
returns c = calls_are_meant

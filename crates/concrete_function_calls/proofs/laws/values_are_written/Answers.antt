use Rattle.concrete_function_calls.proofs.Written.{values_are_written}
use Rattle.concrete_function_calls.proofs.laws.values_are_written.Goals as goal

pub returns : goal.returns
returns c = values_are_written

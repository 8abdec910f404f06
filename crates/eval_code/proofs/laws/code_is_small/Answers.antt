use Rattle.std.proofs.Common.{length}
use Rattle.semantics.specs.Direct.{group_of}
use Rattle.eval_code.specs.Lowered.{slots_from}
use Rattle.eval_code.proofs.Sizing.{tail_small}
use Rattle.eval_code.proofs.laws.code_is_small.Goals as goal

pub returns : goal.returns
returns c spec fun = tail_small (group_of spec) fun.group fun.core (slots_from 0 (length fun.params)) (length fun.params)

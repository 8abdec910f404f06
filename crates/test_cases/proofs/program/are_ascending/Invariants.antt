use Rattle.std.proofs.Common.{◌≡◌, drop}
use Rattle.base_trait.specs.Lists.{ascends_from}
use Rattle.test_cases.specs.Machine.{addresses}
use Rattle.test_cases.proofs.program.are_ascending.Given as goal

abbrev pub invariant-loop-word : goal.invariant-loop-word
invariant-loop-word l = ascends_from 0 (addresses l.code) ≡ ascends_from l.low (addresses (drop l.word-index l.code))

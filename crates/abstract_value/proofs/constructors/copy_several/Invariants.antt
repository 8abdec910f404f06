use Rattle.std.proofs.Common.{◌≡◌, take, map}
use Rattle.abstract_value.specs.Constructors.{entry}
use Rattle.abstract_value.proofs.constructors.copy_several.Given as goal

abbrev pub invariant-loop-one : goal.invariant-loop-one
invariant-loop-one g l = map entry l.out.items ≡ map entry (take l.one-index l.several)

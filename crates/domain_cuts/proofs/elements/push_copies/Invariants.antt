use Rattle.std.proofs.Common.{◌≡◌, ◌++◌, map, take}
use Rattle.abstract_value.specs.View.{abs}
use Rattle.domain_cuts.proofs.elements.push_copies.Given as goal

abbrev pub invariant-loop-value : goal.invariant-loop-value
invariant-loop-value g l = map abs l.out.items ≡ map abs l.initial.out.items ++ map abs (take l.value-index l.values)

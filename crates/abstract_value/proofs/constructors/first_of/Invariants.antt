use Rattle.std.proofs.Common.{◌≡◌, drop, map}
use Rattle.abstract_value.specs.Constructors.{entry, fields_in}
use Rattle.abstract_value.proofs.constructors.first_of.Given as goal

abbrev pub invariant-loop-one : goal.invariant-loop-one
invariant-loop-one g l = fields_in (map entry (drop l.one-index l.several)) l.number ≡ fields_in (map entry l.several) l.number

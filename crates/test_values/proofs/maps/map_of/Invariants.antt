use Rattle.test_values.specs.Bytes.{IsOfBytes}
use Rattle.test_values.proofs.maps.map_of.Given as goal

abbrev pub invariant-loop-key : goal.invariant-loop-key
invariant-loop-key g l = IsOfBytes g.B.Base.algebra l.ctx g.B.Base.CAP l.map

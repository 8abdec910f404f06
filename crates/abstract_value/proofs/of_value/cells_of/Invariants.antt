use Rattle.std.proofs.Common.{◌≡◌, take}
use Rattle.abstract_value_laws.specs.OfValues.{cells_of}
use Rattle.abstract_value.proofs.of_value.cells_of.Given as goal

abbrev pub invariant-loop-key : goal.invariant-loop-key
invariant-loop-key g l = l.cells.items ≡ cells_of g.B.Base.algebra l.ctx l.w (take l.key-index l.m.cells.items)

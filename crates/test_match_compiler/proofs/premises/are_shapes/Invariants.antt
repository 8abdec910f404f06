use Rattle.std.proofs.Common.{◌≡◌, drop}
use Rattle.test_match_compiler.specs.Premises.{shapes_fit}
use Rattle.test_match_compiler.proofs.premises.are_shapes.Given as goal

abbrev pub invariant-loop-shape : goal.invariant-loop-shape
invariant-loop-shape l = shapes_fit l.n (drop l.shape-index l.shapes) ≡ shapes_fit l.n l.shapes

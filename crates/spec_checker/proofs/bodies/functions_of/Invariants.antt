use Rattle.std.proofs.Common.{◌≡◌, ◌++◌, map, drop}
use Rattle.syntax_parser.specs.View.{function, item}
use Rattle.spec_checker.specs.Functions.{functions}
use Rattle.spec_checker.proofs.bodies.functions_of.Given as goal

abbrev pub invariant-loop-item : goal.invariant-loop-item
invariant-loop-item l = functions (map item l.items) ≡ map (λ f. function f.now) l.out.items ++ functions (map item (drop l.item-index l.items))

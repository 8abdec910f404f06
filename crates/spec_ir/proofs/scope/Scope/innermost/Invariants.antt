use Rattle.std.proofs.Common.{◌≡◌, drop, option_map}
use Rattle.spec_ir.specs.Environment.{variable_from, or_else}
use Rattle.spec_ir.specs.Bindings.{bindings}
use Rattle.spec_ir.specs.Scopes.{variable_of}
use Rattle.spec_ir.proofs.scope.Scope.innermost.Given as goal

-- the innermost of what is left, or else what was found
abbrev pub invariant-loop-place : goal.invariant-loop-place
invariant-loop-place l = variable_from 0 (bindings l.b-items) l.name ≡ or_else (variable_from l.place (bindings (drop l.place l.b-items)) l.name) (option_map variable_of l.found)

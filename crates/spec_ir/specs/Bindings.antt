-- What contracts see of a scope.
use Rattle.std.specs.Prelude.{List, map}
use Rattle.spec_ir.specs.Environment.{Scope}
use Rattle.spec_ir.specs.declared.scope.Binding.{Binding}
use Rattle.spec_ir.specs.declared.scope.Scope.TheInside.{Inside}

abbrev pub bindings : List Binding → Scope
bindings bs = map (λ b. (b.name.now, b.ty)) bs

abbrev pub bindings_of : Inside → Scope
bindings_of s = bindings s.bindings.items

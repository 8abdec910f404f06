-- What is found by a name, as plain data.
use Rattle.std.specs.Prelude.{map}
use Rattle.spec_ir.specs.Environment as e
use Rattle.spec_ir.specs.Views.{signature_of}
use Rattle.spec_ir.specs.declared.scope.Variable.{Variable}
use Rattle.spec_ir.specs.declared.names.Function.{Function}
use Rattle.spec_ir.specs.declared.names.Constructor.{Constructor}

abbrev pub variable_of : Variable → e.Variable
variable_of x = record { place = x.place; ty = x.ty }

abbrev pub function_of : Function → e.Function
function_of f = record { fun = f.fun; signature = signature_of f.signature.now }

abbrev pub constructor_of : Constructor → e.Constructor
constructor_of c = record { ty = c.ty; case = c.case; fields = map (λ f. f.1) c.fields.now }

-- What contracts see of an environment, and what is true of its fields.
use Rattle.std.specs.Prelude.{◌≡◌, ℕ, List}
use Rattle.spec_match_compiler.specs.Views.{types}
use Rattle.spec_ir.specs.Environment as e
use Rattle.spec_ir.specs.Environment.{constructor_named, shapes_of}
use Rattle.spec_ir.specs.Found.{found}
use Rattle.spec_ir.specs.Views.{environment}
use Rattle.spec_ir.specs.declared.environment.Environment.TheInside.{Inside}

abbrev pub declared_of : Inside → e.Environment
declared_of x = environment x.declarations.now

-- The shapes are those of what is declared, and the table has its constructors.
pub record IsReady (x : Inside) : Type 0 where
  pub shapes : types x.shapes ≡ shapes_of (declared_of x)
  pub constructors : (name : List ℕ) → found x.constructors name ≡ constructor_named (declared_of x) name

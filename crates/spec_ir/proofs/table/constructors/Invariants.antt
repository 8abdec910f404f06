use Rattle.std.proofs.Common.{◌≡◌, ℕ, List, map, drop}
use Rattle.spec_ir.specs.Environment.{constructor_from, or_else}
use Rattle.spec_ir.specs.Found.{found}
use Rattle.spec_ir.specs.Views.{data_of}
use Rattle.spec_ir.proofs.table.constructors.Given as goal

abbrev pub invariant-loop-ty : goal.invariant-loop-ty
invariant-loop-ty l = (name : List ℕ) → or_else (found l.table name) (constructor_from l.ty (map data_of (drop l.ty l.data-items)) name) ≡ constructor_from 0 (map data_of l.data-items) name

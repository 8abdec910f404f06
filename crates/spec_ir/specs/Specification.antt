-- A checked specification as plain data.
use Rattle.std.specs.Prelude.{ℕ, Bool, Option, List}
use Rattle.spec_ir.specs.declared.ty.Ty.{Ty}
use Rattle.spec_ir.specs.declared.declared.MapType.{MapType}
use Rattle.spec_ir.specs.declared.row.WordPart.{WordPart}
use Rattle.spec_ir.specs.declared.row.Guard.{Guard}
use Rattle.spec_ir.specs.declared.row.Arg.{Arg}
use Rattle.spec_ir.specs.declared.spec.Machine.{Machine}
use Rattle.spec_ir.specs.Environment.{Data}
use Rattle.spec_ir.specs.Terms.{Term}
use Rattle.spec_ir.specs.CoreTerms.{Core}

pub record Fun : Type 0 where
  pub name : List ℕ
  pub params : List Ty
  pub result_type : Ty
  pub body : Term
  pub core : Core
  -- the least number of a function of its group
  pub group : ℕ
  pub loops : Bool

pub record Row : Type 0 where
  pub parts : List WordPart
  pub guards : List Guard
  pub case : ℕ
  pub args : List Arg

pub record Spec : Type 0 where
  pub datas : List Data
  pub maps : List MapType
  pub funs : List Fun
  pub rows : List Row
  pub machine : Option Machine

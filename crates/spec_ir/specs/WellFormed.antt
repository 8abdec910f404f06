-- What stands in the declarations of a specification without faults in its types.
use Rattle.std.specs.Prelude.{◌≡◌, ℕ, Bool, true, ◌&&◌, nat_le, nat_lt, List, length}
use Rattle.std.specs.List.{list_all}
use Rattle.spec_match_compiler.specs.Shapes.{AreTypes}
use Rattle.spec_ir.specs.declared.ty.Ty.{Ty}
use Rattle.spec_ir.specs.declared.ty.Ty.TheVariants.{Bool as Flag, Word, Data as DataTy, Map as MapOf}
use Rattle.spec_ir.specs.declared.declared.MapType.{MapType}
use Rattle.spec_ir.specs.Environment.{Environment, Scope, Signature, field_types, shapes_of}

-- whether a width is 1 to 64
abbrev pub is_width : ℕ → Bool
is_width w = nat_le 1 w && nat_le w 64

-- whether a type is one of the environment: a word of a width, or a datatype or map type that is
-- declared
abbrev pub is_type : Environment → Ty → Bool
is_type env (Word w) = is_width w
is_type env (DataTy t) = nat_lt t (length env.datas)
is_type env (MapOf m) = nat_lt m (length env.maps)
is_type env Flag = true

abbrev pub is_signature : Environment → Signature → Bool
is_signature env s = list_all (is_type env) s.params && is_type env s.result_type

-- whether the types of the names in scope are
abbrev pub is_scope : Environment → Scope → Bool
is_scope env scope = list_all (λ b. is_type env b.1) scope

-- Declarations in which matches can be compiled: no datatype contains itself, and all types that
-- fields, maps and functions name are there.
pub record IsWellFormed (env : Environment) : Type 0 where
  pub types : AreTypes (shapes_of env)
  pub fields : list_all (λ d. list_all (λ c. list_all (is_type env) (field_types c)) d.cases) env.datas ≡ true
  pub values : list_all (λ m. is_width m.width) env.maps ≡ true
  pub signatures : list_all (is_signature env) env.funs ≡ true

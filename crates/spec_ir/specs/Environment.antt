-- What a specification declares, as plain data, and what names mean there.
use Rattle.std.specs.Prelude.{ℕ, ◌+◌, ◌==◌, Bool, true, false, Option, Some, None, List, [], ◌∷◌, map, bytes_eq, slice_get, if◌then◌else◌}
use Rattle.spec_match_compiler.specs.declared.shape.Shape.{Shape}
use Rattle.spec_match_compiler.specs.declared.shape.Shape.TheVariants as shape
use Rattle.spec_match_compiler.specs.Shapes.{Types}
use Rattle.spec_ir.specs.declared.ty.Ty.{Ty}
use Rattle.spec_ir.specs.declared.ty.Ty.TheVariants.{Bool as Flag, Word, Data as DataTy, Map as MapOf}
use Rattle.spec_ir.specs.declared.declared.MapType.{MapType}

-- a constructor: its name, and the names and types of its fields
pub record Case : Type 0 where
  pub name : List ℕ
  pub fields : List (List ℕ × Ty)

pub record Data : Type 0 where
  pub name : List ℕ
  pub cases : List Case

pub record Signature : Type 0 where
  pub name : List ℕ
  pub params : List Ty
  pub result_type : Ty

-- datatypes, map types and functions, each by its number
pub record Environment : Type 0 where
  pub datas : List Data
  pub maps : List MapType
  pub funs : List Signature

-- the types of the fields of a constructor
abbrev pub field_types : Case → List Ty
field_types c = map (λ f. f.1) c.fields

-- ---- what names mean

-- a function by its number
pub record Function : Type 0 where
  pub fun : ℕ
  pub signature : Signature

-- a constructor by the number of its datatype and its own
pub record Constructor : Type 0 where
  pub ty : ℕ
  pub case : ℕ
  pub fields : List Ty

-- the first of a name, numbered from n
abbrev pub function_from : ℕ → List Signature → List ℕ → Option Function
function_from n [] name = None
function_from n (s ∷ rest) name = if bytes_eq s.name name then Some (record { fun = n; signature = s }) else function_from (n + 1) rest name

abbrev pub function_named : Environment → List ℕ → Option Function
function_named env name = function_from 0 env.funs name

abbrev pub case_from : ℕ → ℕ → List Case → List ℕ → Option Constructor
case_from t n [] name = None
case_from t n (c ∷ rest) name = if bytes_eq c.name name then Some (record { ty = t; case = n; fields = field_types c }) else case_from t (n + 1) rest name

-- the one that is there, or else the other
abbrev pub or_else : {A : Type 0} → Option A → Option A → Option A
or_else None b = b
or_else (Some x) b = Some x

abbrev pub constructor_from : ℕ → List Data → List ℕ → Option Constructor
constructor_from t [] name = None
constructor_from t (d ∷ rest) name = or_else (case_from t 0 d.cases name) (constructor_from (t + 1) rest name)

abbrev pub constructor_named : Environment → List ℕ → Option Constructor
constructor_named env name = constructor_from 0 env.datas name

-- the type of the keys, and of the values, of a map type
abbrev pub key_of : Option MapType → Ty
key_of None = Flag
key_of (Some d) = d.key

abbrev pub value_of : Option MapType → Ty
value_of None = Flag
value_of (Some d) = Word d.width

abbrev pub key_type : Environment → ℕ → Ty
key_type env m = key_of (slice_get env.maps m)

abbrev pub value_type : Environment → ℕ → Ty
value_type env m = value_of (slice_get env.maps m)

-- ---- types as shapes of matches

abbrev pub shape_of : Ty → Shape
shape_of Flag = shape.Bool
shape_of (Word w) = shape.Word w
shape_of (DataTy t) = shape.Data t
shape_of (MapOf m) = shape.Opaque

abbrev pub shapes_of : Environment → Types
shapes_of env = map (λ d. map (λ c. map shape_of (field_types c)) d.cases) env.datas

-- ---- names in scope, outermost first

abbrev pub Scope : Type 0
Scope = List (List ℕ × Ty)

-- the place, from n, and the type of the innermost of a name
pub record Variable : Type 0 where
  pub place : ℕ
  pub ty : Ty

abbrev pub variable_from : ℕ → Scope → List ℕ → Option Variable
variable_from n [] name = None
variable_from n (b ∷ rest) name = or_else (variable_from (n + 1) rest name) (if bytes_eq b.0 name then Some (record { place = n; ty = b.1 }) else None)

abbrev pub variable_named : Scope → List ℕ → Option Variable
variable_named scope name = variable_from 0 scope name

-- whether two types are the same
abbrev pub same_type : Ty → Ty → Bool
same_type Flag Flag = true
same_type (Word v) (Word w) = v == w
same_type (DataTy s) (DataTy t) = s == t
same_type (MapOf m) (MapOf n) = m == n
same_type _ _ = false

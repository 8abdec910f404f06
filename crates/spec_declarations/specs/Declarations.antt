-- What a tree without faults of names and types declares.
use Rattle.std.specs.Prelude.{ℕ, ◌≤◌, List, [], ◌∷◌, length, map}
use Rattle.std.specs.List.{All}
use Rattle.syntax_parser.specs.declared.tree.FieldDecl.{FieldDecl}
use Rattle.syntax_parser.specs.declared.tree.MapDecl.{MapDecl}
use Rattle.syntax_parser.specs.declared.tree.Name.{Name}
use Rattle.syntax_parser.specs.Tree as e
use Rattle.syntax_parser.specs.Tree.{Item, Datatype, Constructor, Function}
use Rattle.spec_ir.specs.declared.ty.Ty.{Ty}
use Rattle.spec_ir.specs.declared.ty.Ty.TheVariants.{Bool as Flag, Word, Data as DataTy, Map as MapOf}
use Rattle.spec_ir.specs.declared.declared.MapType.{MapType}
use Rattle.spec_ir.specs.Environment.{Environment, Case, Data, Signature}
use Rattle.spec_declarations.specs.Leaves.{datatypes}
use Rattle.spec_declarations.specs.TypeNames.{TypeTable, types_of, type_named, type_or_flag}

-- the width of a word
abbrev pub width_or : Ty → ℕ
width_or (Word w) = w
width_or Flag = 0
width_or (DataTy d) = 0
width_or (MapOf m) = 0

module _ (types : TypeTable) where
  abbrev pub type_in : Name → Ty
  type_in name = type_or_flag (type_named types name.text)

  abbrev pub field_in : FieldDecl → List ℕ × Ty
  field_in f = (f.name.text, type_in f.ty)

  abbrev pub case_declared : Constructor → Case
  case_declared c = record { name = c.name.text; fields = map field_in c.fields }

  abbrev pub data_declared : Datatype → Data
  data_declared d = record { name = d.name.text; cases = map case_declared d.cases }

  abbrev pub map_declared : MapDecl → MapType
  map_declared m = record { name = m.name.text; key = type_in m.key; width = width_or (type_in m.value); default = m.default.v }

  abbrev pub signature_declared : Function → Signature
  signature_declared f = record { name = f.name.text; params = map (λ p. type_in p.ty) f.params; result_type = type_in f.result_type }

  abbrev pub datas_from : List Item → List Data
  datas_from [] = []
  datas_from (e.datatype d ∷ rest) = data_declared d ∷ datas_from rest
  datas_from (e.map_type m ∷ rest) = datas_from rest
  datas_from (e.function f ∷ rest) = datas_from rest
  datas_from (e.decode x ∷ rest) = datas_from rest

  abbrev pub maps_from : List Item → List MapType
  maps_from [] = []
  maps_from (e.map_type m ∷ rest) = map_declared m ∷ maps_from rest
  maps_from (e.datatype d ∷ rest) = maps_from rest
  maps_from (e.function f ∷ rest) = maps_from rest
  maps_from (e.decode x ∷ rest) = maps_from rest

  abbrev pub signatures_from : List Item → List Signature
  signatures_from [] = []
  signatures_from (e.function f ∷ rest) = signature_declared f ∷ signatures_from rest
  signatures_from (e.datatype d ∷ rest) = signatures_from rest
  signatures_from (e.map_type m ∷ rest) = signatures_from rest
  signatures_from (e.decode x ∷ rest) = signatures_from rest

-- what the name of a type means among items
abbrev pub type_at : List Item → Name → Ty
type_at items name = type_in (types_of items) name

-- The environment of items.
abbrev pub declared : List Item → Environment
declared items = record { datas = datas_from (types_of items) items; maps = maps_from (types_of items) items; funs = signatures_from (types_of items) items }

-- each datatype has a constructor
abbrev pub HaveCases : List Item → Type 0
HaveCases items = All (λ d. 1 ≤ length d.cases) (datatypes items)

-- The shape of a type: datatypes unfolded as deep as there are datatypes. That is the whole of it, since none contains
-- itself.
use Rattle.std.specs.Prelude.{ℕ, zero, suc, Option, Some, None, List, [], ◌∷◌, length, slice_get}
use Rattle.spec_ir.specs.declared.ty.Ty.{Ty}
use Rattle.spec_ir.specs.declared.ty.Ty.TheVariants.{Bool as Flag, Word, Data as DataTy, Map as MapOf}
use Rattle.spec_ir.specs.declared.declared.MapType.{MapType}
use Rattle.spec_ir.specs.Environment.{Case, Environment, field_types}
use Rattle.spec_ir.specs.Texts.{cases_of}
use Rattle.abstract_value_laws.specs.Shapes.{CaseShapes, PartShapes, Shape, case_then, datas, field_then, flags, maps, no_field, no_more, words}

-- the width of the words of a map type
abbrev pub width_of : Option MapType → ℕ
width_of None = 0
width_of (Some m) = m.width

-- the shapes of fields and constructors, by those of types
module _ (shape : Ty → Shape) where
  abbrev pub part_shapes : List Ty → PartShapes
  part_shapes [] = no_field
  part_shapes (t ∷ types) = field_then (shape t) (part_shapes types)

  abbrev pub case_shapes : List Case → CaseShapes
  case_shapes [] = no_more
  case_shapes (c ∷ cs) = case_then (part_shapes (field_types c)) (case_shapes cs)

-- the shape of a type, by those of the constructors of each datatype
abbrev pub shape_by : Environment → (ℕ → CaseShapes) → Ty → Shape
shape_by env made Flag = flags
shape_by env made (Word w) = words w
shape_by env made (DataTy t) = datas t (made t)
shape_by env made (MapOf m) = maps m (width_of (slice_get env.maps m))

module _ (env : Environment) where
  -- the shapes of the constructors of a datatype, unfolded to a depth
  abbrev pub cases_at : ℕ → ℕ → CaseShapes
  cases_at zero t = no_more
  cases_at (suc depth) t = case_shapes (shape_by env (cases_at depth)) (cases_of (slice_get env.datas t))

  abbrev pub shape_of : Ty → Shape
  shape_of = shape_by env (cases_at (length env.datas))

-- The second pass: types.
use Rattle.std.specs.Prelude.{◌≡◌, ◌⊎◌, Result, Ok, Err, ℕ, ◌+◌, ◌^◌, Bool, false, not, nat_le, nat_lt, Option, Some, None, List, [], ◌∷◌, length, codes, slice_get, slice_index_or}
use Rattle.std.specs.List.{list_all}
use Rattle.std.specs.Fmt.{decimal}
use Rattle.syntax_parser.specs.declared.tree.Name.{Name}
use Rattle.syntax_parser.specs.declared.tree.FieldDecl.{FieldDecl}
use Rattle.syntax_parser.specs.declared.tree.MapDecl.{MapDecl}
use Rattle.syntax_parser.specs.Tree as e
use Rattle.syntax_parser.specs.Tree.{Item, Datatype, Constructor, Function}
use Rattle.spec_ir.specs.declared.ty.Ty.TheVariants.{Bool as Flag, Word, Data as DataTy, Map as MapOf}
use Rattle.spec_ir.specs.declared.spec_error.SpecError.{SpecError}
use Rattle.spec_ir.specs.declared.spec_error.SpecError.TheVariants.{Unknown, Mismatch, BadWidth, RecursiveType, TooMany, NoMemory}
use Rattle.spec_ir.specs.Answers.{unless, ◌then◌}
use Rattle.spec_declarations.specs.declared.type_names.Meaning.{Meaning}
use Rattle.spec_declarations.specs.declared.type_names.Meaning.TheVariants.{Known, BadWidth as NoWidth, Unknown as NoType}
use Rattle.spec_declarations.specs.TypeNames.{TypeTable, types_of, type_named}
use Rattle.spec_declarations.specs.Leaves.{datatypes, all_made, IsKnown}

-- a name of no type (T1), or of a word that there isn't (T5)
abbrev pub name_fault : Name → Meaning → Option SpecError
name_fault name (Known t) = None
name_fault name NoWidth = Some (BadWidth name.span name.text)
name_fault name NoType = Some (Unknown name.span name.text)

abbrev pub kind_fault : List ℕ → Name → Option SpecError
kind_fault want name = Some (Mismatch name.span want name.text)

abbrev pub no_fields : Constructor → Bool
no_fields c = nat_le (length c.fields) 0

-- an enumeration is a datatype whose constructors have no fields
abbrev pub is_enumeration : Option Datatype → Bool
is_enumeration None = false
is_enumeration (Some d) = list_all no_fields d.cases

-- how many datatypes there are behind an item
abbrev pub behind : ℕ → Item → ℕ
behind d (e.datatype x) = d + 1
behind d (e.map_type m) = d
behind d (e.function f) = d
behind d (e.decode x) = d

module _ (types : TypeTable) where
  abbrev pub meant : Name → Meaning
  meant name = type_named types name.text

  abbrev pub named_fault : Name → Option SpecError
  named_fault name = name_fault name (meant name)

  abbrev pub field_types_fault : List FieldDecl → Option SpecError
  field_types_fault [] = None
  field_types_fault (f ∷ fields) = named_fault f.ty then field_types_fault fields

  abbrev pub case_types_fault : List Constructor → Option SpecError
  case_types_fault [] = None
  case_types_fault (c ∷ cases) = field_types_fault c.fields then case_types_fault cases

  abbrev pub function_fault : Function → Option SpecError
  function_fault f = field_types_fault f.params then named_fault f.result_type

  -- a datatype: that it contains itself (T6), its leaves (T14), and its fields
  abbrev pub datatype_fault : Bool → Bool → Datatype → Option SpecError
  datatype_fault recursive large x =
      unless (not recursive) (RecursiveType x.name.span x.name.text)
      then unless (not large) (TooMany x.name.span (codes "leaves"))
      then case_types_fault x.cases

-- a value is a word
abbrev pub value_fault : Name → Meaning → Option SpecError
value_fault name (Known Flag) = kind_fault (codes "word") name
value_fault name (Known (Word w)) = None
value_fault name (Known (DataTy d)) = kind_fault (codes "word") name
value_fault name (Known (MapOf m)) = kind_fault (codes "word") name
value_fault name NoWidth = None
value_fault name NoType = None

abbrev pub width_fault : MapDecl → ℕ → Option SpecError
width_fault m w = unless (nat_lt m.default.v (2 ^ w)) (BadWidth m.span (decimal m.default.v))

-- a default is a value
abbrev pub default_fault : MapDecl → Meaning → Option SpecError
default_fault m (Known Flag) = None
default_fault m (Known (Word w)) = width_fault m w
default_fault m (Known (DataTy d)) = None
default_fault m (Known (MapOf n)) = None
default_fault m NoWidth = None
default_fault m NoType = None

abbrev pub key_width_fault : Name → ℕ → Option SpecError
key_width_fault name w = unless (nat_le w 32) (BadWidth name.span name.text)

abbrev pub key_data_fault : List Datatype → Name → ℕ → Option SpecError
key_data_fault datas name d = unless (is_enumeration (slice_get datas d)) (Mismatch name.span (codes "key") name.text)

-- a key is a word of at most 32 bits or an enumeration
abbrev pub key_fault : List Datatype → Name → Meaning → Option SpecError
key_fault datas name (Known Flag) = kind_fault (codes "key") name
key_fault datas name (Known (Word w)) = key_width_fault name w
key_fault datas name (Known (DataTy d)) = key_data_fault datas name d
key_fault datas name (Known (MapOf m)) = kind_fault (codes "key") name
key_fault datas name NoWidth = None
key_fault datas name NoType = None

module _ (types : TypeTable) (datas : List Datatype) where
  abbrev pub map_fault : MapDecl → Option SpecError
  map_fault m =
      named_fault types m.key then key_fault datas m.key (meant types m.key)
      then named_fault types m.value then value_fault m.value (meant types m.value)
      then default_fault m (meant types m.value)

  module _ (recursive large : List Bool) where
    -- an item, behind d datatypes
    abbrev pub item_types_fault : ℕ → Item → Option SpecError
    item_types_fault d (e.datatype x) = datatype_fault types (slice_index_or recursive d false) (slice_index_or large d false) x
    item_types_fault d (e.map_type m) = map_fault m
    item_types_fault d (e.function f) = function_fault types f
    item_types_fault d (e.decode x) = None

    abbrev pub items_types_fault : ℕ → List Item → Option SpecError
    items_types_fault d [] = None
    items_types_fault d (item ∷ rest) = item_types_fault d item then items_types_fault (behind d item) rest

-- The first fault of types, by what is known of the datatypes.
abbrev pub types_fault : List Item → List Bool → List Bool → Option SpecError
types_fault items recursive large = items_types_fault (types_of items) (datatypes items) recursive large 0 items

module _ (items : List Item) where
  -- The first fault of types.
  abbrev pub IsTypesFault : SpecError → Type 0
  IsTypesFault e = (recursive large : List Bool) × IsKnown (all_made items) recursive large × (types_fault items recursive large ≡ Some e)

  -- No fault of types stands.
  abbrev pub NoTypesFault : Type 0
  NoTypesFault = (recursive large : List Bool) × IsKnown (all_made items) recursive large × (types_fault items recursive large ≡ None)

  -- What a call answers: Ok where there is no fault, else the first, or memory ran out.
  abbrev pub TypesAnswer : {A : Type 0} → Result A SpecError → Type 0
  TypesAnswer (Ok x) = NoTypesFault
  TypesAnswer (Err e) = IsTypesFault e ⊎ (e ≡ NoMemory)

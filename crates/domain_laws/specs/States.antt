-- The states of a specification as a domain sees them: their datatype, and the fields behind the program counter.
use Rattle.std.specs.Prelude.{◌≡◌, ℕ, ◌^◌, Bool, true, false, ◌&&◌, ◌==◌, nat_le, nat_lt, Option, Some, None, List, [], ◌∷◌, map as map_of, slice_get}
use Rattle.std.specs.List.{list_all}
use Rattle.base_trait.specs.Identity.{same_list}
use Rattle.spec_ir.specs.declared.ty.Ty.{Ty}
use Rattle.spec_ir.specs.declared.ty.Ty.TheVariants as ty
use Rattle.spec_ir.specs.declared.declared.MapType.{MapType}
use Rattle.spec_ir.specs.declared.spec.Machine.{Machine}
use Rattle.spec_ir.specs.Environment.{Case, Environment, field_types}
use Rattle.spec_ir.specs.Specification.{Spec}
use Rattle.spec_ir.specs.Texts.{case_at, cases_of, fields_at}
use Rattle.spec_ir.specs.WellFormed.{is_width}
use Rattle.semantics_values.specs.States.{State, value_of}
use Rattle.semantics_values.specs.Types.{environment_of, has_type, key_count}
use Rattle.domain_laws.specs.declared.field.Field.{Field}
use Rattle.domain_laws.specs.declared.field.Field.TheVariants.{Word, Map}

-- the number of the datatype, and the fields behind the counter
pub record StateType : Type 0 where
  pub number : ℕ
  pub fields : List Field

-- all but the first
abbrev pub behind : List Ty → List Ty
behind [] = []
behind (t ∷ types) = types

module _ (env : Environment) where
  abbrev pub map_field : ℕ → Option MapType → Field
  map_field m None = Map m 0 0 0
  map_field m (Some d) = Map m (key_count env d.key) d.width d.default

  -- the field of a type; one that is neither a word nor a map has no width
  abbrev pub field_of : Ty → Field
  field_of (ty.Word w) = Word w
  field_of (ty.Map m) = map_field m (slice_get env.maps m)
  field_of _ = Word 0

  abbrev pub fields_of : List Ty → List Field
  fields_of types = map_of field_of types

module _ (spec : Spec) where
  abbrev pub types_in : Option Machine → List Ty
  types_in None = []
  types_in (Some m) = behind (fields_at (case_at (environment_of spec) (ty.Data m.state) 0))

  abbrev pub state_cases : Option Machine → List Case
  state_cases None = []
  state_cases (Some m) = cases_of (slice_get spec.datas m.state)

  abbrev pub number_in : Option Machine → ℕ
  number_in None = 0
  number_in (Some m) = m.state

  -- the types of the fields behind the counter
  abbrev pub state_types : List Ty
  state_types = types_in spec.machine

  abbrev pub state_type : StateType
  state_type = record { number = number_in spec.machine; fields = fields_of (environment_of spec) state_types }

  -- the state has the type of states
  abbrev pub IsState : State → Type 0
  IsState s = has_type (environment_of spec) (value_of (state_type.number) s) (ty.Data (state_type.number)) ≡ true

-- whether a field's words have a width, and a map a default of that width and at most 2^32 keys
abbrev pub is_field : Field → Bool
is_field (Word w) = is_width w
is_field (Map m keys width default) = is_width width && (nat_lt default (2 ^ width) && nat_le keys (2 ^ 32))

-- whether the counter comes first
abbrev pub begins_with_counter : List Ty → Bool
begins_with_counter (ty.Word w ∷ types) = w == 32
begins_with_counter _ = false

abbrev pub is_state_data : List Case → Bool
is_state_data (c ∷ []) = begins_with_counter (field_types c)
is_state_data _ = false

-- Whether a specification has states: their datatype has one constructor, whose first field is the counter, and the others
-- are words and maps.
abbrev pub has_states : Spec → Bool
has_states spec = is_state_data (state_cases spec spec.machine) && list_all is_field (state_type spec).fields

-- ---- equality

abbrev pub same_field : Field → Field → Bool
same_field (Word w) (Word u) = w == u
same_field (Map m keys width default) (Map n bound w d) = m == n && (keys == bound && (width == w && default == d))
same_field _ _ = false

abbrev pub same_states : StateType → StateType → Bool
same_states s t = s.number == t.number && same_list same_field s.fields t.fields

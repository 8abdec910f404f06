-- Accepted specifications: what the meaning, and all that stands on it, relies on.
use Rattle.std.specs.Prelude.{◌≡◌, ⊤, ◌⊎◌, ℕ, ◌<◌, ◌≤◌, ◌^◌, Bool, true, false, ◌&&◌, nat_le, nat_lt, Option, Some, None, List, [], ◌∷◌, length, slice_get}
use Rattle.std.specs.List.{All, list_all}
use Rattle.spec_ir.specs.declared.ty.Ty.{Ty}
use Rattle.spec_ir.specs.declared.ty.Ty.TheVariants.{Word, Data as DataTy, Map as MapOf}
use Rattle.spec_ir.specs.declared.declared.MapType.{MapType}
use Rattle.spec_ir.specs.declared.spec.Machine.{Machine}
use Rattle.spec_ir.specs.Environment.{Environment, Data, Case, field_types}
use Rattle.spec_ir.specs.TermTypes.{HasType}
use Rattle.spec_ir.specs.Cores.{core_of}
use Rattle.spec_ir.specs.WellFormed.{IsWellFormed, is_width}
use Rattle.spec_ir.specs.Specification.{Spec, Fun}
use Rattle.spec_calls.specs.declared.call.Call.{Call}
use Rattle.spec_calls.specs.Calls.{calls}
use Rattle.semantics_values.specs.Types.{environment_of}
use Rattle.semantics.specs.Direct.{group_of}
use Rattle.semantics_laws.specs.Total.{IsTotal}
use Rattle.semantics_laws.specs.Rows.{row_fits}

-- ---- maps

-- whether a datatype is there, and its constructors have no fields
abbrev pub is_enumeration : Option Data → Bool
is_enumeration None = false
is_enumeration (Some d) = list_all (λ c. nat_le (length c.fields) 0) d.cases

-- whether a type is one of keys: a word of at most 32 bits, or an enumeration
abbrev pub is_key_type : Environment → Ty → Bool
is_key_type env (Word w) = is_width w && nat_le w 32
is_key_type env (DataTy t) = is_enumeration (slice_get env.datas t)
is_key_type env _ = false

-- whether a map type has a type of keys, a width, and a default of that width
abbrev pub is_map : Environment → MapType → Bool
is_map env m = is_key_type env m.key && (is_width m.width && nat_lt m.default (2 ^ m.width))

-- ---- machines

-- whether a type is one of a state's fields behind the counter: a word or a map
abbrev pub is_part : Ty → Bool
is_part (Word w) = true
is_part (MapOf m) = true
is_part _ = false

-- A machine: states have one constructor, whose first field is the counter; the function of instructions takes an
-- instruction and a state, and gives a state; decode rows give instructions.
pub record IsMachine (spec : Spec) (m : Machine) : Type 0 where
  pub instr : m.instr < length spec.datas
  pub states : Data
  pub states_there : slice_get spec.datas m.state ≡ Some states
  pub one : Case
  pub one_alone : states.cases ≡ one ∷ []
  pub parts : List Ty
  pub counter : field_types one ≡ Word 32 ∷ parts
  pub words_or_maps : list_all is_part parts ≡ true
  pub interp : Fun
  pub interp_there : slice_get spec.funs m.interp ≡ Some interp
  pub takes : interp.params ≡ DataTy m.instr ∷ DataTy m.state ∷ []
  pub returns : interp.result_type ≡ DataTy m.state
  pub rows : list_all (row_fits (environment_of spec) m.instr) spec.rows ≡ true

abbrev pub IsMachineIfAny : Spec → Option Machine → Type 0
IsMachineIfAny spec None = ⊤
IsMachineIfAny spec (Some m) = IsMachine spec m

-- ---- functions

module _ (spec : Spec) (rank : ℕ → ℕ) where
  -- A call from function f is of a function of its group and stands in tail position, or of a group of lower rank.
  abbrev pub IsInOrder : ℕ → Call → Type 0
  IsInOrder f c = ((group_of spec c.fun ≡ group_of spec f) × (c.tail ≡ true)) ⊎ (rank (group_of spec c.fun) < rank (group_of spec f))

  -- The body of function f has the type of its result and leaves nothing open, the core term is that of the body, and calls are
  -- in order. The number of the group is that of a function of it, and no greater than f; the rank of the group is no greater
  -- than the number of functions.
  pub record IsRight (f : ℕ) (fun : Fun) : Type 0 where
    pub typed : HasType (environment_of spec) fun.params fun.body fun.result_type
    pub total : IsTotal (environment_of spec) fun.params fun.body
    pub core : fun.core ≡ core_of (environment_of spec) fun.params fun.body
    pub calls_in_order : All (IsInOrder f) (calls true fun.body)
    pub first : fun.group ≤ f
    pub of_group : group_of spec fun.group ≡ fun.group
    pub bound : rank fun.group ≤ length spec.funs

-- A specification is accepted: its types are well formed, and so are its map types; groups of functions have ranks by
-- which all bodies are right; functions of one group have one type of results; and a machine is one.
pub record IsAccepted (spec : Spec) : Type 0 where
  pub types : IsWellFormed (environment_of spec)
  pub maps : list_all (is_map (environment_of spec)) spec.maps ≡ true
  pub rank : ℕ → ℕ
  pub right : (f : ℕ) (fun : Fun) → slice_get spec.funs f ≡ Some fun → IsRight spec rank f fun
  pub alike : (f g : ℕ) (fun other : Fun) → slice_get spec.funs f ≡ Some fun → slice_get spec.funs g ≡ Some other → fun.group ≡ other.group → fun.result_type ≡ other.result_type
  pub machine : IsMachineIfAny spec spec.machine

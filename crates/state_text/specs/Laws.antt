-- What holds of each entry and each state.
use Rattle.std.specs.Prelude.{◌≡◌, ℕ, ◌<◌, ◌≤◌, ◌^◌, Bool, true, not, ◌&&◌, bytes_eq, length, map, List, [], ◌∷◌, Option, Some, None, Ok, slice_get}
use Rattle.std.specs.List.{list_all, list_any}
use Rattle.spec_ir.specs.declared.ty.Ty.{Ty}
use Rattle.spec_ir.specs.declared.ty.Ty.TheVariants.{Word, Data as DataTy, Map as MapOf}
use Rattle.spec_ir.specs.declared.declared.MapType.{MapType}
use Rattle.spec_ir.specs.Specification.{Spec}
use Rattle.spec_ir.specs.Texts.{cases_of}
use Rattle.spec_ir.specs.WellFormed.{is_width}
use Rattle.semantics_values.specs.States.{State}
use Rattle.semantics_values.specs.Types.{environment_of, have_types}
use Rattle.semantics_values.specs.Values.{Val, word, map as map_of, vals, cell_at}
use Rattle.state_cell_text.specs.Places.{state_fields}
use Rattle.semantics.specs.Entries.{IsEntryState}
use Rattle.state_text.specs.declared.stop.Stop.{Stop}
use Rattle.state_text.specs.Forms.{Form, HasForm, is_name}
use Rattle.state_text.specs.OneState.{one_state, types_behind}
use Rattle.state_text.specs.Parsing.{form}
use Rattle.state_text.specs.Reading.{Entry, read}
use Rattle.state_text.specs.Stops.{stopped_text}
use Rattle.state_text.specs.Writing.{state_text}

-- The form that is computed of a line is the one that it has.
pub record FormsAreExact : Type 0 where
  pub found : (line : List ℕ) (f : Form) → form line ≡ Some f → HasForm line f
  pub computed : (line : List ℕ) (f : Form) → HasForm line f → form line ≡ Some f

-- ---- what accepted specifications of machines have

-- whether no name is the name of two
abbrev pub all_differ : List (List ℕ) → Bool
all_differ [] = true
all_differ (name ∷ names) = not (list_any (bytes_eq name) names) && all_differ names

abbrev pub are_names : List (List ℕ) → Bool
are_names names = list_all is_name names && all_differ names

module _ (spec : Spec) where
  -- a type of keys: words of at most 32 bits, or the constructors of a datatype
  abbrev pub IsKeyType : Ty → Type 0
  IsKeyType (Word w) = (1 ≤ w) × (w ≤ 32)
  IsKeyType (DataTy t) = are_names (map (λ c. c.name) (cases_of (slice_get spec.datas t))) ≡ true
  IsKeyType _ = ⊥

  abbrev pub IsMapType : Option MapType → Type 0
  IsMapType None = ⊥
  IsMapType (Some d) = (is_width d.width ≡ true) × IsKeyType d.key × (d.default < 2 ^ d.width)

  -- a field behind the program counter: a word or a map
  abbrev pub IsCellType : Ty → Type 0
  IsCellType (Word w) = is_width w ≡ true
  IsCellType (MapOf m) = IsMapType (slice_get spec.maps m)
  IsCellType _ = ⊥

  abbrev pub AreCellTypes : List Ty → Type 0
  AreCellTypes [] = Unit {0}
  AreCellTypes (t ∷ types) = IsCellType t × AreCellTypes types

-- The fields of states: at least the program counter, of different names, each behind it a word or a map.
pub record HasFields (spec : Spec) : Type 0 where
  pub some : 1 ≤ length (state_fields spec)
  pub few : length (state_fields spec) ≤ 2 ^ 32
  pub names : are_names (map (λ f. f.0) (state_fields spec)) ≡ true
  pub types : AreCellTypes spec (types_behind (state_fields spec))

-- A state of the machine: the program counter has 32 bits, and the other fields have their types.
pub record IsStateOf (spec : Spec) (s : State) : Type 0 where
  pub counter : s.pc < 2 ^ 32
  pub typed : have_types (environment_of spec) (vals s.parts) (types_behind (state_fields spec)) ≡ true

-- ---- states with the same numbers

abbrev pub SameValue : Val → Val → Type 0
SameValue (word u v) (word w x) = (u ≡ w) × (v ≡ x)
SameValue (map_of m rest cells) (map_of n other listed) = (m ≡ n) × (rest.v ≡ other.v) × ((k : ℕ) → (cell_at rest cells k).v ≡ (cell_at other listed k).v)
SameValue _ _ = ⊥

abbrev pub SameValues : List Val → List Val → Type 0
SameValues [] [] = Unit {0}
SameValues (v ∷ vs) (w ∷ ws) = SameValue v w × SameValues vs ws
SameValues _ _ = ⊥

-- The same number in the program counter, in each word, and in each map at every key. Stamps are not printed.
pub record SameState (s t : State) : Type 0 where
  pub counter : s.pc ≡ t.pc
  pub parts : SameValues s.parts t.parts

-- An entry of single numbers, of which this is the one state but for stamps.
pub record IsEntryOf (spec : Spec) (s : State) (e : Entry) : Type 0 where
  pub one : State
  pub only : one_state spec e ≡ Ok one
  pub same : SameState s one

-- The text of a state, and that of a stop with it, is an entry of which that state is the one state.
pub record RoundTrip : Type 0 where
  pub state : (spec : Spec) (s : State) → HasFields spec → IsStateOf spec s → (e : Entry) × (read spec (state_text spec s) ≡ Ok e) × IsEntryOf spec s e
  pub stopped : (spec : Spec) (stop : Stop) (done : ℕ) (s : State) → done < 2 ^ 64 → HasFields spec → IsStateOf spec s → (e : Entry) × (read spec (stopped_text spec stop done s) ≡ Ok e) × IsEntryOf spec s e

-- The one state of an entry that was read is a state that the entry describes.
abbrev pub OneIsDescribed : Type 0
OneIsDescribed = (spec : Spec) (bytes : List ℕ) (e : Entry) (s : State) → HasFields spec → read spec bytes ≡ Ok e → one_state spec e ≡ Ok s
    → IsEntryState (environment_of spec) (types_behind (state_fields spec)) e.pc e.lines s

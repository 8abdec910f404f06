-- The third pass: what makes a specification a machine.
use Rattle.std.specs.Prelude.{ℕ, ◌+◌, Bool, true, false, ◌&&◌, nat_le, ◌==◌, Option, Some, None, List, [], ◌∷◌, ◌++◌, codes, bytes_eq, drop, length, map, option_map, slice_get, if◌then◌else◌}
use Rattle.std.specs.List.{list_all, list_any}
use Rattle.syntax_parser.specs.declared.tree.Span.{Span}
use Rattle.syntax_parser.specs.declared.tree.FieldDecl.{FieldDecl}
use Rattle.syntax_parser.specs.Tree as e
use Rattle.syntax_parser.specs.Tree.{Tree, Item, Datatype, Constructor, Function}
use Rattle.spec_ir.specs.declared.ty.Ty.{Ty}
use Rattle.spec_ir.specs.declared.ty.Ty.TheVariants.{Bool as Flag, Word, Data as DataTy, Map as MapOf}
use Rattle.spec_ir.specs.declared.spec_error.SpecError.{SpecError}
use Rattle.spec_ir.specs.declared.spec_error.SpecError.TheVariants.{BadState, BadInterp}
use Rattle.spec_ir.specs.declared.spec.Machine.{Machine}
use Rattle.spec_ir.specs.declared.spec.SpecUse.{SpecUse}
use Rattle.spec_declarations.specs.Declarations.{type_in}
use Rattle.spec_declarations.specs.TypeNames.{TypeTable, types_of}

-- the datatype, and the function, of a name, with its number, from n on
abbrev pub datatype_from : ℕ → List Item → List ℕ → Option (ℕ × Datatype)
datatype_from n [] name = None
datatype_from n (e.datatype d ∷ items) name = if bytes_eq d.name.text name then Some (n, d) else datatype_from (n + 1) items name
datatype_from n (e.map_type m ∷ items) name = datatype_from n items name
datatype_from n (e.function f ∷ items) name = datatype_from n items name
datatype_from n (e.decode x ∷ items) name = datatype_from n items name

abbrev pub function_from : ℕ → List Item → List ℕ → Option (ℕ × Function)
function_from n [] name = None
function_from n (e.datatype d ∷ items) name = function_from n items name
function_from n (e.map_type m ∷ items) name = function_from n items name
function_from n (e.function f ∷ items) name = if bytes_eq f.name.text name then Some (n, f) else function_from (n + 1) items name
function_from n (e.decode x ∷ items) name = function_from n items name

-- ---- states

-- fields of the state but the first, behind those of these map types: words, and maps of other types
abbrev pub are_state_fields : List ℕ → List Ty → Bool
are_state_fields maps [] = true
are_state_fields maps (Flag ∷ types) = false
are_state_fields maps (Word w ∷ types) = are_state_fields maps types
are_state_fields maps (DataTy d ∷ types) = false
are_state_fields maps (MapOf m ∷ types) = if list_any (λ k. k == m) maps then false else are_state_fields (maps ++ m ∷ []) types

-- the counter is INT32
abbrev pub is_counter : Ty → Bool
is_counter Flag = false
is_counter (Word w) = w == 32
is_counter (DataTy d) = false
is_counter (MapOf m) = false

module _ (types : TypeTable) where
  abbrev pub is_counter_field : Option FieldDecl → Bool
  is_counter_field None = false
  is_counter_field (Some f) = is_counter (type_in types f.ty)

  -- the first field is the counter, the others are words or maps, and no map type stands twice
  abbrev pub is_state_case : Constructor → Bool
  is_state_case c = is_counter_field (slice_get c.fields 0) && are_state_fields [] (map (λ f. type_in types f.ty) (drop 1 c.fields))

  -- states have one such constructor
  abbrev pub is_state : Datatype → Bool
  is_state d = length d.cases == 1 && list_all is_state_case d.cases

-- ---- the function of instructions

abbrev pub is_named : List ℕ → Option FieldDecl → Bool
is_named name None = false
is_named name (Some f) = bytes_eq f.ty.text name

-- parameters of types `Instr` and `State`
abbrev pub are_instr_and_state : List FieldDecl → Bool
are_instr_and_state params = length params == 2 && (is_named (codes "Instr") (slice_get params 0) && is_named (codes "State") (slice_get params 1))

-- the parameters are an instruction and a state, the result a state, and instructions are a datatype
abbrev pub is_interp : Option (ℕ × Datatype) → Function → Bool
is_interp None f = false
is_interp (Some i) f = are_instr_and_state f.params && bytes_eq f.result_type.text (codes "State")

-- ---- faults

-- the end of the source
abbrev pub at_end : ℕ → Span
at_end end = record { from = end; to = end }

-- where the type of states is at fault
abbrev pub state_fault : TypeTable → ℕ → Option (ℕ × Datatype) → Option Span
state_fault types end None = Some (at_end end)
state_fault types end (Some d) = if is_state types d.1 then None else Some d.1.name.span

-- where the function of instructions is
abbrev pub interp_fault : Option (ℕ × Datatype) → ℕ → Option (ℕ × Function) → Option Span
interp_fault instr end None = Some (at_end end)
interp_fault instr end (Some f) = if is_interp instr f.1 then None else Some f.1.name.span

-- the fault that stands first (T10, T11), and that of states at the same place
abbrev pub earlier : Option Span → Option Span → Option SpecError
earlier None None = None
earlier (Some a) None = Some (BadState a)
earlier None (Some b) = Some (BadInterp b)
earlier (Some a) (Some b) = if nat_le a.from b.from then Some (BadState a) else Some (BadInterp b)

module _ (tree : Tree) where
  abbrev pub instr_in : Option (ℕ × Datatype)
  instr_in = datatype_from 0 tree.items (codes "Instr")

  abbrev pub state_in : Option (ℕ × Datatype)
  state_in = datatype_from 0 tree.items (codes "State")

  abbrev pub interp_in : Option (ℕ × Function)
  interp_in = function_from 0 tree.items (codes "interpInstr")

  -- the first fault of a machine
  abbrev pub first_fault : Option SpecError
  first_fault = earlier (state_fault (types_of tree.items) tree.end state_in) (interp_fault instr_in tree.end interp_in)

-- The first fault of the machine.
abbrev pub machine_fault : SpecUse → Tree → Option SpecError
machine_fault SpecUse.Library tree = None
machine_fault SpecUse.Machine tree = first_fault tree

abbrev pub machine_by : Option (ℕ × Datatype) → Option (ℕ × Datatype) → Option (ℕ × Function) → Option Machine
machine_by None s f = None
machine_by (Some i) None f = None
machine_by (Some i) (Some s) None = None
machine_by (Some i) (Some s) (Some f) = Some (record { instr = i.0; state = s.0; interp = f.0 })

-- The machine of a tree without faults.
abbrev pub machine_of : SpecUse → Tree → Option Machine
machine_of SpecUse.Library tree = None
machine_of SpecUse.Machine tree = machine_by (instr_in tree) (state_in tree) (interp_in tree)

-- The number of the type of instructions.
abbrev pub instr_of : Tree → Option ℕ
instr_of tree = option_map (λ d. d.0) (instr_in tree)

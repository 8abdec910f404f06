-- Faults of types, of the machine, and of decode rows.
use Rattle.std.proofs.Common.{◌≡◌, ℕ, ◌^◌, Bool, true, false, not, List, [], ◌∷◌, ◌++◌, Option, Some, None}
use Rattle.std.specs.Prelude.{codes, if◌then◌else◌, nat_le, nat_lt, slice_get, slice_index_or}
use Rattle.std.specs.Fmt.{decimal}
use Rattle.syntax_parser.specs.declared.tree.Span.{Span}
use Rattle.syntax_parser.specs.declared.tree.Name.{Name}
use Rattle.syntax_parser.specs.declared.tree.FieldDecl.{FieldDecl}
use Rattle.syntax_parser.specs.declared.tree.MapDecl.{MapDecl}
use Rattle.syntax_parser.specs.Tree as e
use Rattle.syntax_parser.specs.Tree.{Tree, Item, Datatype, Constructor, Function, Row}
use Rattle.spec_ir.specs.declared.spec.SpecUse.{SpecUse}
use Rattle.spec_ir.specs.declared.ty.Ty.TheVariants.{Bool as Flag, Word, Data as DataTy, Map as MapOf}
use Rattle.spec_ir.specs.declared.spec_error.SpecError.TheVariants.{Mismatch, BadWidth, RecursiveType, TooMany, BadState, BadInterp, BadPattern, Overlap}
use Rattle.spec_ir.specs.Answers.{unless, ◌then◌}
use Rattle.spec_ir.specs.Environment.{Environment}
use Rattle.spec_declarations.specs.declared.type_names.Meaning.{Meaning}
use Rattle.spec_declarations.specs.declared.type_names.Meaning.TheVariants.{Known, BadWidth as NoWidth, Unknown as NoType}
use Rattle.spec_declarations.specs.Leaves.{datatypes}
use Rattle.spec_declarations.specs.TypeNames.{TypeTable, types_of}
use Rattle.spec_declarations.specs.Types.{behind, case_types_fault, datatype_fault, default_fault, field_types_fault, function_fault, is_enumeration, item_types_fault, items_types_fault, key_data_fault, key_fault, key_width_fault, map_fault, meant, name_fault, named_fault, types_fault, value_fault, width_fault}
use Rattle.spec_declarations.specs.MachineRules.{earlier, first_fault, instr_in, interp_fault, interp_in, machine_fault, state_fault, state_in}
use Rattle.spec_decode_rows.specs.Bits.{all_agree, row_bits}
use Rattle.spec_decode_rows.specs.Fits.{row_fits}
use Rattle.spec_decode_rows.specs.Rows.{EarlierRow, decode_fault, earlier_of, overlap_fault, row_fault, rows_fault, rows_of}
use Rattle.state_fault_laws.proofs.Told.{IsToldIn, both, where_fails}

-- ---- types

name_told : (name : Name) (m : Meaning) → IsToldIn (name_fault name m)
name_told name (Known t) = tt
name_told name NoWidth = tt
name_told name NoType = tt

value_told : (name : Name) (m : Meaning) → IsToldIn (value_fault name m)
value_told name (Known Flag) = tt
value_told name (Known (Word w)) = tt
value_told name (Known (DataTy d)) = tt
value_told name (Known (MapOf m)) = tt
value_told name NoWidth = tt
value_told name NoType = tt

default_told : (m : MapDecl) (is : Meaning) → IsToldIn (default_fault m is)
default_told m (Known Flag) = tt
default_told m (Known (Word w)) = where_fails (nat_lt m.default.v (2 ^ w)) (BadWidth m.span (decimal m.default.v)) tt
default_told m (Known (DataTy d)) = tt
default_told m (Known (MapOf n)) = tt
default_told m NoWidth = tt
default_told m NoType = tt

key_told : (datas : List Datatype) (name : Name) (m : Meaning) → IsToldIn (key_fault datas name m)
key_told datas name (Known Flag) = tt
key_told datas name (Known (Word w)) = where_fails (nat_le w 32) (BadWidth name.span name.text) tt
key_told datas name (Known (DataTy d)) = where_fails (is_enumeration (slice_get datas d)) (Mismatch name.span (codes "key") name.text) tt
key_told datas name (Known (MapOf m)) = tt
key_told datas name NoWidth = tt
key_told datas name NoType = tt

module _ (types : TypeTable) where
  named_told : (name : Name) → IsToldIn (named_fault types name)
  named_told name = name_told name (meant types name)

  field_types_told : (fields : List FieldDecl) → IsToldIn (field_types_fault types fields)
  field_types_told [] = tt
  field_types_told (f ∷ fields) = both (named_fault types f.ty) (field_types_fault types fields) (named_told f.ty) (field_types_told fields)

  case_types_told : (cases : List Constructor) → IsToldIn (case_types_fault types cases)
  case_types_told [] = tt
  case_types_told (c ∷ cases) = both (field_types_fault types c.fields) (case_types_fault types cases) (field_types_told c.fields) (case_types_told cases)

  datatype_told : (recursive large : Bool) (x : Datatype) → IsToldIn (datatype_fault types recursive large x)
  datatype_told recursive large x =
      both (unless (not recursive) (RecursiveType x.name.span x.name.text) then unless (not large) (TooMany x.name.span (codes "leaves"))) (case_types_fault types x.cases)
      (both (unless (not recursive) (RecursiveType x.name.span x.name.text)) (unless (not large) (TooMany x.name.span (codes "leaves")))
      (where_fails (not recursive) (RecursiveType x.name.span x.name.text) tt) (where_fails (not large) (TooMany x.name.span (codes "leaves")) tt))
      (case_types_told x.cases)

  function_told : (f : Function) → IsToldIn (function_fault types f)
  function_told f = both (field_types_fault types f.params) (named_fault types f.result_type) (field_types_told f.params) (named_told f.result_type)

  map_told : (datas : List Datatype) (m : MapDecl) → IsToldIn (map_fault types datas m)
  map_told datas m =
      both (named_fault types m.key then key_fault datas m.key (meant types m.key) then named_fault types m.value then value_fault m.value (meant types m.value)) (default_fault m (meant types m.value))
      (both (named_fault types m.key then key_fault datas m.key (meant types m.key) then named_fault types m.value) (value_fault m.value (meant types m.value))
      (both (named_fault types m.key then key_fault datas m.key (meant types m.key)) (named_fault types m.value)
      (both (named_fault types m.key) (key_fault datas m.key (meant types m.key)) (named_told m.key) (key_told datas m.key (meant types m.key)))
      (named_told m.value)) (value_told m.value (meant types m.value))) (default_told m (meant types m.value))

  module _ (datas : List Datatype) (recursive large : List Bool) where
    item_told : (d : ℕ) (item : Item) → IsToldIn (item_types_fault types datas recursive large d item)
    item_told d (e.datatype x) = datatype_told (slice_index_or recursive d false) (slice_index_or large d false) x
    item_told d (e.map_type m) = map_told datas m
    item_told d (e.function f) = function_told f
    item_told d (e.decode x) = tt

    pub items_told : (d : ℕ) (items : List Item) → IsToldIn (items_types_fault types datas recursive large d items)
    items_told d [] = tt
    items_told d (item ∷ rest) =
        both (item_types_fault types datas recursive large d item) (items_types_fault types datas recursive large (behind d item) rest) (item_told d item) (items_told (behind d item) rest)

pub types_told : (items : List Item) (recursive large : List Bool) → IsToldIn (types_fault items recursive large)
types_told items recursive large = items_told (types_of items) (datatypes items) recursive large 0 items

-- ---- the machine

earlier_by : (a b : Span) (first : Bool) → IsToldIn (if first then Some (BadState a) else Some (BadInterp b))
earlier_by a b true = tt
earlier_by a b false = tt

earlier_told : (a b : Option Span) → IsToldIn (earlier a b)
earlier_told None None = tt
earlier_told (Some a) None = tt
earlier_told None (Some b) = tt
earlier_told (Some a) (Some b) = earlier_by a b (nat_le a.from b.from)

pub machine_told : (wanted : SpecUse) (tree : Tree) → IsToldIn (machine_fault wanted tree)
machine_told SpecUse.Library tree = tt
machine_told SpecUse.Machine tree = earlier_told (state_fault (types_of tree.items) tree.end (state_in tree)) (interp_fault (instr_in tree) tree.end (interp_in tree))

-- ---- decode rows

overlap_by : (q : EarlierRow) (earlier : List EarlierRow) (r : Row) (agree : Bool) → IsToldIn (overlap_fault earlier r) → IsToldIn (if agree then Some (Overlap r.span q.case r.case.text) else overlap_fault earlier r)
overlap_by q earlier r true later = tt
overlap_by q earlier r false later = later

overlap_told : (earlier : List EarlierRow) (r : Row) → IsToldIn (overlap_fault earlier r)
overlap_told [] r = tt
overlap_told (q ∷ earlier) r = overlap_by q earlier r (all_agree q.bits (row_bits r.parts)) (overlap_told earlier r)

module _ (env : Environment) (instr : Option ℕ) where
  row_told : (earlier : List EarlierRow) (r : Row) → IsToldIn (row_fault env instr earlier r)
  row_told earlier r =
      both (unless (row_fits env instr r) (BadPattern r.span)) (overlap_fault earlier r) (where_fails (row_fits env instr r) (BadPattern r.span) tt) (overlap_told earlier r)

  rows_told : (earlier : List EarlierRow) (rows : List Row) → IsToldIn (rows_fault env instr earlier rows)
  rows_told earlier [] = tt
  rows_told earlier (r ∷ rows) = both (row_fault env instr earlier r) (rows_fault env instr (earlier ++ earlier_of r ∷ []) rows) (row_told earlier r) (rows_told (earlier ++ earlier_of r ∷ []) rows)

  pub decode_told : (tree : Tree) → IsToldIn (decode_fault env instr tree)
  decode_told tree = rows_told [] (rows_of tree.items)

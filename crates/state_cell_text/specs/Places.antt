-- The fields of states by their names.
use Rattle.std.specs.Prelude.{ℕ, ◌+◌, ◌^◌, ◌==◌, nat_lt, List, [], ◌∷◌, Option, Some, None, bytes_eq, slice_get, if◌then◌else◌}
use Rattle.spec_ir.specs.declared.ty.Ty.{Ty}
use Rattle.spec_ir.specs.declared.ty.Ty.TheVariants.{Word, Map as MapOf}
use Rattle.spec_ir.specs.declared.declared.MapType.{MapType}
use Rattle.spec_ir.specs.declared.spec.Machine.{Machine}
use Rattle.spec_ir.specs.Environment.{Case}
use Rattle.spec_ir.specs.Specification.{Spec}
use Rattle.spec_ir.specs.Texts.{cases_of}
use Rattle.state_cell_text.specs.declared.places.Place.{Place}
use Rattle.state_cell_text.specs.declared.places.Place.TheVariants as place

-- a field's name and type
abbrev pub Field : Type 0
Field = List ℕ × Ty

abbrev pub fields_of : Option Case → List Field
fields_of None = []
fields_of (Some c) = c.fields

abbrev pub fields_in : Spec → Option Machine → List Field
fields_in spec None = []
fields_in spec (Some m) = fields_of (slice_get (cases_of (slice_get spec.datas m.state)) 0)

-- the fields of the states of a specification, the program counter first; none where it has no machine
abbrev pub state_fields : Spec → List Field
state_fields spec = fields_in spec spec.machine

module _ (spec : Spec) where
  -- a field of a map type
  abbrev pub map_place : ℕ → Option MapType → Option Place
  map_place n None = None
  map_place n (Some d) = Some (place.Map n d.key d.width)

  -- a field behind the program counter: a word or a map
  abbrev pub cell_place : ℕ → Ty → Option Place
  cell_place n (Word w) = Some (place.Word n w)
  cell_place n (MapOf m) = map_place n (slice_get spec.maps m)
  cell_place n _ = None

  -- field number n; the numbers of fields have 32 bits
  abbrev pub place_at : ℕ → Ty → Option Place
  place_at n ty = if n == 0 then Some place.Counter else (if nat_lt n (2 ^ 32) then cell_place n ty else None)

  -- the first field of a name, of fields that are numbered from n on
  abbrev pub place_from : ℕ → List Field → List ℕ → Option Place
  place_from n [] name = None
  place_from n (f ∷ fields) name = if bytes_eq f.0 name then place_at n f.1 else place_from (n + 1) fields name

  -- the field of a name
  abbrev pub place_of : List ℕ → Option Place
  place_of name = place_from 0 (state_fields spec) name

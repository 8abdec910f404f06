-- The cells that slices are asked for.
use Rattle.std.specs.Prelude.{ℕ, List, Option, Some, None, slice_get}
use Rattle.spec_ir.specs.declared.ty.Ty.{Ty}
use Rattle.spec_ir.specs.declared.ty.Ty.TheVariants.{Map as MapOf}
use Rattle.spec_ir.specs.Specification.{Spec}
use Rattle.state_cell_text.specs.declared.places.Place.{Place}
use Rattle.state_cell_text.specs.declared.places.Place.TheVariants as place
use Rattle.state_cell_text.specs.Keys.{key_number}
use Rattle.state_cell_text.specs.Places.{Field, place_of, state_fields}
use Rattle.state_cell_names.specs.Names.{CellName, Part, whole, rest, at, cell_name}
use Rattle.text_slices.specs.declared.slice_cell.SliceCell.{SliceCell}

abbrev pub map_of_type : Ty → Option ℕ
map_of_type (MapOf m) = Some m
map_of_type _ = None

abbrev pub map_of_field : Option Field → Option ℕ
map_of_field None = None
map_of_field (Some f) = map_of_type f.1

-- a map at a key, if that is one
abbrev pub at_key : ℕ → ℕ → Option ℕ → Option SliceCell
at_key field m None = None
at_key field m (Some k) = Some (record { field = field; map = m; key = Some k })

module _ (spec : Spec) where
  -- the number of the map type of a field of the states
  abbrev pub map_type : ℕ → Option ℕ
  map_type n = map_of_field (slice_get (state_fields spec) n)

  -- of a map field, and the number of its type
  abbrev pub of_map : ℕ → Ty → Option ℕ → Part → Option SliceCell
  of_map field ty None part = None
  of_map field ty (Some m) whole = None
  of_map field ty (Some m) rest = Some (record { field = field; map = m; key = None })
  of_map field ty (Some m) (at text) = at_key field m (key_number spec ty text)

  abbrev pub of_place : Option Place → Part → Option SliceCell
  of_place (Some (place.Map field ty width)) part = of_map field ty (map_type field) part
  of_place _ part = None

  abbrev pub asked_by : CellName → Option SliceCell
  asked_by c = of_place (place_of spec c.name) c.part

  abbrev pub asked_in : Option CellName → Option SliceCell
  asked_in None = None
  asked_in (Some c) = asked_by c

  -- The cell that a text is, where it is NAME[KEY] of a map field and one of its keys, or NAME[*] of one.
  abbrev pub asked : List ℕ → Option SliceCell
  asked text = asked_in (cell_name text)

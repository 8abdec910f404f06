-- The cells of claims.
use Rattle.std.specs.Prelude.{ℕ, List, Option, Some, None}
use Rattle.spec_ir.specs.Specification.{Spec}
use Rattle.semantics_values.specs.declared.entry.KeyAt.TheVariants.{Whole, At}
use Rattle.state_cell_text.specs.declared.places.Place.{Place}
use Rattle.state_cell_text.specs.declared.places.Place.TheVariants as place
use Rattle.state_cell_text.specs.Keys.{key_number}
use Rattle.state_cell_text.specs.Places.{place_of}
use Rattle.state_cell_names.specs.Names.{CellName, Part, whole, rest, at, cell_name}
use Rattle.text_claims.specs.declared.kinds.Known.{Known}

abbrev pub at_key : ℕ → ℕ → Option ℕ → Option Known
at_key field width None = None
at_key field width (Some k) = Some (record { field = field; key = At k; width = width })

module _ (spec : Spec) where
  abbrev pub known_at : Option Place → Part → Option Known
  known_at (Some (place.Word field width)) whole = Some (record { field = field; key = Whole; width = width })
  known_at (Some (place.Map field key width)) (at text) = at_key field width (key_number spec key text)
  known_at _ _ = None

  -- The cell of a text, where the states have it: a word field, or a map at one of its keys. The program counter is none.
  abbrev pub known : CellName → Option Known
  known c = known_at (place_of spec c.name) c.part

  abbrev pub of_part : CellName → Part → Option (Option Known)
  of_part c rest = None
  of_part c _ = Some (known c)

  abbrev pub cell_of : Option CellName → Option (Option Known)
  cell_of None = None
  cell_of (Some c) = of_part c c.part

  -- The cell that a text is: None where it is not NAME or NAME[KEY], Some None where the states have none such.
  abbrev pub cell_in : List ℕ → Option (Option Known)
  cell_in text = cell_of (cell_name text)

-- What a line says.
use Rattle.std.specs.Prelude.{ℕ, suc, ◌+◌, ◌^◌, ◌==◌, ◌&&◌, nat_le, nat_lt, Bool, true, List, [], ◌∷◌, Option, Some, None, length, if◌then◌else◌}
use Rattle.spec_ir.specs.declared.ty.Ty.{Ty}
use Rattle.spec_ir.specs.Specification.{Spec}
use Rattle.semantics_values.specs.declared.entry.GivenNumber.{GivenNumber}
use Rattle.semantics_values.specs.declared.entry.GivenNumber.TheVariants.{One, Any, Range}
use Rattle.semantics_values.specs.declared.entry.KeyAt.{KeyAt}
use Rattle.semantics_values.specs.declared.entry.KeyAt.TheVariants.{Whole, Rest, At}
use Rattle.semantics_values.specs.Types.{environment_of, key_count}
use Rattle.state_cell_text.specs.declared.places.Place.{Place}
use Rattle.state_cell_text.specs.declared.places.Place.TheVariants as place
use Rattle.state_cell_text.specs.Keys.{key_number}
use Rattle.state_cell_text.specs.Places.{place_of}
use Rattle.state_text.specs.declared.fault.EntryFault.{EntryFault}
use Rattle.state_text.specs.declared.fault.EntryFault.TheVariants.{Form as BadForm, Unknown, TooBig}
use Rattle.state_text.specs.Forms.{Form, single, run, CellSuffix, whole, rest, at}
use Rattle.state_text.specs.Parsing.{form}

-- Nothing; what is given of the program counter; what is given of cells of a field; or a fault that does not depend on
-- other lines.
pub data Said : Type 0 where
  nothing : Said
  counter : GivenNumber → Said
  cells : ℕ → List (KeyAt × GivenNumber) → Said
  faulty : EntryFault → Said

-- whether the numbers of a value have at most w bits; of a range the last is the greatest
abbrev pub given_fits : GivenNumber → ℕ → Bool
given_fits (One v) w = nat_lt v (2 ^ w)
given_fits Any w = true
given_fits (Range lo hi) w = nat_lt hi (2 ^ w)

-- what a line says that gives a cell of w bits this
abbrev pub sized : GivenNumber → ℕ → Said → Said
sized given w said = if given_fits given w then said else faulty TooBig

-- one cell
abbrev pub cell : ℕ → KeyAt → GivenNumber → Said
cell field key given = cells field ((key, given) ∷ [])

-- the cell at a key of a map with values of w bits; an unknown key comes before a number that is too big
abbrev pub at_key : ℕ → ℕ → GivenNumber → Option ℕ → Said
at_key field w given None = faulty Unknown
at_key field w given (Some k) = sized given w (cell field (At k) given)

-- a number for each of successive keys
abbrev pub run_cells : ℕ → List ℕ → List (KeyAt × GivenNumber)
run_cells k [] = []
run_cells k (b ∷ bytes) = (At k, One b) ∷ run_cells (suc k) bytes

module _ (spec : Spec) where
  -- A value of a cell, or of the rest of a map: a word has no key, a map has one or `*`, and the program counter is a word of 32 bits.
  abbrev pub single_says : Option Place → CellSuffix → GivenNumber → Said
  single_says (Some place.Counter) whole given = sized given 32 (counter given)
  single_says (Some (place.Word field w)) whole given = sized given w (cell field Whole given)
  single_says (Some (place.Map field key w)) rest given = sized given w (cell field Rest given)
  single_says (Some (place.Map field key w)) (at text) given = at_key field w given (key_number spec key text)
  single_says _ _ given = faulty Unknown

  -- bytes for successive keys, of which none is past the last. Keys of accepted specifications have at most 32 bits, so that there the
  -- first test holds where the second does.
  abbrev pub run_at : ℕ → Ty → List ℕ → Option ℕ → Said
  run_at field key bytes None = faulty Unknown
  run_at field key bytes (Some k) = if nat_lt (k + length bytes) (2 ^ 64) && nat_le (k + length bytes) (key_count (environment_of spec) key) then cells field (run_cells k bytes) else faulty Unknown

  -- a run of bytes, where its map has values of 8 bits
  abbrev pub run_says : Option Place → List ℕ → List ℕ → Said
  run_says (Some (place.Map field key w)) text bytes = if w == 8 then run_at field key bytes (key_number spec key text) else faulty Unknown
  run_says _ text bytes = faulty Unknown

  abbrev pub form_says : Option Form → Said
  form_says None = faulty BadForm
  form_says (Some (single name part given)) = single_says (place_of spec name) part given
  form_says (Some (run name text bytes)) = run_says (place_of spec name) text bytes

  -- Empty lines and lines that begin with `#` are passed over.
  abbrev pub said : List ℕ → Said
  said [] = nothing
  said (b ∷ bytes) = if b == 35 then nothing else form_says (form (b ∷ bytes))

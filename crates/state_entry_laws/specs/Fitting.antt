-- Lines of entries that fit the fields of states.
use Rattle.std.specs.Prelude.{ℕ, zero, suc, ◌^◌, ◌&&◌, nat_lt, Bool, true, false, List, Option, Some, None, slice_get}
use Rattle.spec_ir.specs.declared.ty.Ty.{Ty}
use Rattle.spec_ir.specs.declared.ty.Ty.TheVariants.{Word, Map as MapOf}
use Rattle.spec_ir.specs.declared.declared.MapType.{MapType}
use Rattle.spec_ir.specs.Environment.{Environment}
use Rattle.semantics_values.specs.declared.entry.GivenNumber.{GivenNumber}
use Rattle.semantics_values.specs.declared.entry.KeyAt.{KeyAt}
use Rattle.semantics_values.specs.declared.entry.KeyAt.TheVariants.{Whole, Rest, At}
use Rattle.semantics_values.specs.declared.entry.Line.{Line}
use Rattle.semantics_values.specs.Types.{key_count}
use Rattle.state_text.specs.Meaning.{given_fits}

-- the type of field number n, where fields behind the program counter have these types
abbrev pub field_type : List Ty → ℕ → Option Ty
field_type types zero = None
field_type types (suc n) = slice_get types n

module _ (env : Environment) where
  -- whether a value fits the cells of a map
  abbrev pub rest_fits : Option MapType → GivenNumber → Bool
  rest_fits None given = false
  rest_fits (Some d) given = given_fits given d.width

  -- whether there is such a key, and a value fits its cell
  abbrev pub key_fits : Option MapType → ℕ → GivenNumber → Bool
  key_fits None k given = false
  key_fits (Some d) k given = nat_lt k (key_count env d.key) && given_fits given d.width

  -- whether a value fits a cell of a field of a type
  abbrev pub place_fits : Option Ty → KeyAt → GivenNumber → Bool
  place_fits (Some (Word w)) Whole given = given_fits given w
  place_fits (Some (MapOf m)) Rest given = rest_fits (slice_get env.maps m) given
  place_fits (Some (MapOf m)) (At k) given = key_fits (slice_get env.maps m) k given
  place_fits _ _ _ = false

  -- whether a line gives a cell that is there numbers of its width
  abbrev pub line_fits : List Ty → Line → Bool
  line_fits types l = place_fits (field_type types l.field) l.key l.given

  -- whether a map has a default of its width
  abbrev pub has_default : Option MapType → Bool
  has_default None = false
  has_default (Some d) = nat_lt d.default (2 ^ d.width)

  -- whether a type is a word, or a map that is declared
  abbrev pub is_cell : Ty → Bool
  is_cell (Word w) = true
  is_cell (MapOf m) = has_default (slice_get env.maps m)
  is_cell _ = false

-- Entries that fit the fields of states.
use Rattle.std.specs.Prelude.{ℕ, zero, suc, ◌^◌, ◌<◌, ◌≤◌, Option, None, IsSomeAnd, List, slice_get, ⊤}
use Rattle.base_trait.specs.Lists.{Each}
use Rattle.semantics_values.specs.declared.entry.GivenNumber.{GivenNumber}
use Rattle.semantics_values.specs.declared.entry.GivenNumber.TheVariants.{One, Any, Range}
use Rattle.semantics_values.specs.declared.entry.KeyAt.{KeyAt}
use Rattle.semantics_values.specs.declared.entry.KeyAt.TheVariants.{Whole, Rest, At}
use Rattle.semantics_values.specs.declared.entry.Line.{Line}
use Rattle.domain_laws.specs.declared.field.Field.{Field}
use Rattle.domain_laws.specs.declared.field.Field.TheVariants.{Word, Map}

-- What is given is some number of w bits.
abbrev pub GivenFits : ℕ → GivenNumber → Type 0
GivenFits w (One v) = v < 2 ^ w
GivenFits w Any = ⊤
GivenFits w (Range lo hi) = (lo ≤ hi) × (hi < 2 ^ w)

-- It is given of a part that the field has.
abbrev pub PlaceFits : Field → KeyAt → GivenNumber → Type 0
PlaceFits (Word w) Whole g = GivenFits w g
PlaceFits (Map m keys width default) Rest g = GivenFits width g
PlaceFits (Map m keys width default) (At k) g = (k < keys) × GivenFits width g
PlaceFits _ _ g = ⊥

-- field number n of a state, where these are the fields behind the counter, which is number 0
abbrev pub field_at : List Field → ℕ → Option Field
field_at fields zero = None
field_at fields (suc n) = slice_get fields n

-- A line gives numbers of its width to a part of a field that is there.
abbrev pub LineFits : List Field → Line → Type 0
LineFits fields l = IsSomeAnd (field_at fields l.field) (λ f. PlaceFits f l.key l.given)

abbrev pub LinesFit : List Field → List Line → Type 0
LinesFit fields lines = Each (LineFits fields) lines

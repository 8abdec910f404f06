-- Fields of states, and the lines that speak of one of them.
use Rattle.std.specs.Prelude.{◌≡◌, ℕ, suc, ◌<◌, ◌≤◌, ◌^◌, List, [], ◌∷◌, ⊤}
use Rattle.word_operations.specs.Width.{IsWidth}
use Rattle.base_trait.specs.Lists.{Each}
use Rattle.semantics_values.specs.declared.entry.GivenNumber.{GivenNumber}
use Rattle.semantics_values.specs.declared.entry.KeyAt.{KeyAt}
use Rattle.semantics_values.specs.declared.entry.KeyAt.TheVariants.{At}
use Rattle.semantics_values.specs.declared.entry.Line.{Line}
use Rattle.domain_laws.specs.declared.field.Field.{Field}
use Rattle.domain_laws.specs.declared.field.Field.TheVariants.{Word, Map}
use Rattle.domain_laws.specs.Entries.{GivenFits, PlaceFits}

-- A field's words have a width, and a map a default of that width and at most 2^32 keys.
abbrev pub IsField : Field → Type 0
IsField (Word w) = IsWidth w
IsField (Map m keys width default) = IsWidth width × (default < 2 ^ width) × (keys ≤ 2 ^ 32)

-- The lines of field number n fit it.
abbrev pub OfField : ℕ → Field → List Line → Type 0
OfField n f lines = Each (λ l. l.field ≡ n → PlaceFits f l.key l.given) lines

-- So do those of each field, numbered from n on.
abbrev pub OfFields : ℕ → List Field → List Line → Type 0
OfFields n [] lines = ⊤
OfFields n (f ∷ fields) lines = OfField n f lines × OfFields (suc n) fields lines

-- A key that is named is below 2^32, and has numbers of w bits.
abbrev pub KeyFits : ℕ → KeyAt → GivenNumber → Type 0
KeyFits w (At k) g = (k < 2 ^ 32) × GivenFits w g
KeyFits w _ g = ⊤

-- So is each that a line of field number n names.
abbrev pub OfKeys : ℕ → ℕ → List Line → Type 0
OfKeys n w lines = Each (λ l. l.field ≡ n → KeyFits w l.key l.given) lines

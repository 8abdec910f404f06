-- The words that the values of fields have at tracked cells.
use Rattle.std.specs.Prelude.{ℕ, zero, suc, ◌-◌, List, map as map_of, Option, Some, None}
use Rattle.abstract_map_laws.specs.Maps.{cell}
use Rattle.semantics_values.specs.declared.entry.KeyAt.{KeyAt}
use Rattle.semantics_values.specs.declared.entry.KeyAt.TheVariants.{Whole, At}
use Rattle.abstract_value_laws.specs.Abs.{Abs, Parts, no_part, part, word, map}
use Rattle.domain_affine_base.specs.declared.word.Word.{Word}
use Rattle.domain_affine_base.specs.declared.word.Word.TheVariants.{Any}

-- the value number i, from 0
abbrev pub part_at : Parts Word (Unit {0}) → ℕ → Option (Abs Word (Unit {0}))
part_at no_part i = None
part_at (part x xs) zero = Some x
part_at (part x xs) (suc i) = part_at xs i

-- the word of a value at a key: of a map that of the listed cell, or else of the rest
abbrev pub word_of : Abs Word (Unit {0}) → KeyAt → Word
word_of (word w x) Whole = x
word_of (map m x) (At k) = (cell x k).word
word_of _ _ = Any

abbrev pub word_in : Option (Abs Word (Unit {0})) → KeyAt → Word
word_in None key = Any
word_in (Some x) key = word_of x key

abbrev pub word_at : Parts Word (Unit {0}) → ℕ × KeyAt → Word
word_at xs cell = word_in (part_at xs (cell.0 - 1)) cell.1

-- the words at the cells, in their order
abbrev pub closed_words : List (ℕ × KeyAt) → Parts Word (Unit {0}) → List Word
closed_words cells xs = map_of (word_at xs) cells

-- The texts of notes, behind the word of a cell.
use Rattle.std.specs.Prelude.{ℕ, List, [], ◌∷◌, ◌++◌, map, codes}
use Rattle.base_trait.specs.declared.uses.Stamp.{Stamp}
use Rattle.base_trait.specs.declared.uses.Stamp.TheVariants.{Entry, At}
use Rattle.text_words.specs.Lists.{with_commas}
use Rattle.text_words.specs.Words.{number}

-- a stamp: the entry, or an address
abbrev pub stamp_text : Stamp → List ℕ
stamp_text Entry = codes "entry"
stamp_text (At at) = number 32 at

-- ` from STAMPS`; nothing, where there are none
abbrev pub stamps_text : List Stamp → List ℕ
stamps_text [] = []
stamps_text (stamp ∷ stamps) = codes " from " ++ with_commas (map stamp_text (stamp ∷ stamps))

-- Keys of maps in a table.
use Rattle.std.specs.Prelude.{ℕ, nat_le, nat_lt, List, [], ◌∷◌, Option, Some, None, if◌then◌else◌}
use Rattle.spec_ir.specs.declared.ty.Ty.{Ty}
use Rattle.spec_ir.specs.declared.ty.Ty.TheVariants.{Word}
use Rattle.spec_ir.specs.Specification.{Spec}
use Rattle.state_cell_text.specs.Keys.{key_number}
use Rattle.text_words.specs.Pieces.{is_behind}
use Rattle.text_words.specs.Reading.{number_in}

-- The key that a text is: that which an entry would name so, but a word of more than 8 bits has all its digits, in lower case.
abbrev pub key_in : Spec → Ty → List ℕ → Option ℕ
key_in spec (Word w) text = if nat_le w 8 then key_number spec (Word w) text else number_in w text
key_in spec ty text = key_number spec ty text

-- a key, where it comes behind the last one
abbrev pub key_behind : Option ℕ → Option ℕ → Option ℕ
key_behind last None = None
key_behind last (Some k) = if is_behind nat_lt last k then Some k else None

-- the key of the last entry
abbrev pub last_key : {A : Type 0} → List (ℕ × A) → Option ℕ
last_key [] = None
last_key (e ∷ []) = Some e.0
last_key (e ∷ d ∷ es) = last_key (d ∷ es)

-- The lines of an entry.
use Rattle.std.specs.Prelude.{◌≡◌, ℕ, ◌≤◌, Bool, true, false, List, [], ◌∷◌, ◌++◌, Some, Ok, ◌==◌, ◌||◌, ◌&&◌, codes, length, nat_lt, not, replicate}
use Rattle.std.specs.List.{list_all}
use Rattle.std.specs.Char.{is_ascii_alphabetic, is_ascii_alphanumeric}
use Rattle.hex.specs.Hex.{decode_of}
use Rattle.semantics_values.specs.declared.entry.GivenNumber.{GivenNumber}
use Rattle.semantics_values.specs.declared.entry.GivenNumber.TheVariants.{One, Any, Range}
use Rattle.state_cell_text.specs.Digits.{hex_number}

-- letters, digits and `_`
abbrev pub is_word_byte : ℕ → Bool
is_word_byte b = is_ascii_alphanumeric b || b == 95

-- whether a text begins with a letter or `_`
abbrev pub begins_name : List ℕ → Bool
begins_name [] = false
begins_name (b ∷ bytes) = is_ascii_alphabetic b || b == 95

-- whether a text is `_` alone
abbrev pub is_mark : List ℕ → Bool
is_mark [] = false
is_mark (b ∷ bytes) = b == 95 && not (nat_lt 0 (length bytes))

-- a letter or `_`, and letters, digits and `_` behind it, but not `_` alone
abbrev pub is_name : List ℕ → Bool
is_name name = begins_name name && (list_all is_word_byte name && not (is_mark name))

-- the text of a key: letters, digits and `_`
abbrev pub is_key : List ℕ → Bool
is_key [] = false
is_key (b ∷ bytes) = list_all is_word_byte (b ∷ bytes)

-- what is written of a cell behind its name: nothing, `[*]`, `[KEY]` or `[KEY..]`
pub data CellSuffix : Type 0 where
  whole : CellSuffix
  rest : CellSuffix
  at : List ℕ → CellSuffix
  from : List ℕ → CellSuffix

abbrev pub part_text : CellSuffix → List ℕ
part_text whole = []
part_text rest = codes "[*]"
part_text (at key) = 91 ∷ (key ++ codes "]")
part_text (from key) = 91 ∷ (key ++ codes "..]")

-- A part of one cell, or of the rest of a map.
abbrev pub IsOnePart : CellSuffix → Type 0
IsOnePart whole = Unit {0}
IsOnePart rest = Unit {0}
IsOnePart (at key) = is_key key ≡ true
IsOnePart (from key) = ⊥

-- What a line has: a name and a part with what is given, or a name and the first key of a run with its bytes.
pub data Form : Type 0 where
  single : List ℕ → CellSuffix → GivenNumber → Form
  run : List ℕ → List ℕ → List ℕ → Form

-- A text of a value: 1 to 16 hex digits, `any`, or `LO..HI` with LO at most HI.
abbrev pub IsValue : GivenNumber → List ℕ → Type 0
IsValue (One v) text = hex_number 16 text ≡ Some v
IsValue Any text = text ≡ codes "any"
IsValue (Range lo hi) text = (a : List ℕ) × (b : List ℕ) × (text ≡ a ++ (codes ".." ++ b)) × (hex_number 16 a ≡ Some lo) × (hex_number 16 b ≡ Some hi) × (lo ≤ hi)

-- how many bytes a run may have
abbrev pub most_run : ℕ
most_run = 4096

-- A text of a run: pairs of hex digits for 1 to 4,096 bytes.
abbrev pub IsRun : List ℕ → List ℕ → Type 0
IsRun bytes text = (decode_of text ≡ Ok bytes) × (1 ≤ length bytes) × (length bytes ≤ most_run)

-- A line that is a cell, one or more spaces, and a value.
abbrev pub IsCellLine : List ℕ → CellSuffix → List ℕ → List ℕ → Type 0
IsCellLine name part value line = (n : ℕ) × (line ≡ name ++ (part_text part ++ (32 ∷ (replicate n 32 ++ value))))

-- A line of this form.
abbrev pub HasForm : List ℕ → Form → Type 0
HasForm line (single name part given) = (value : List ℕ) × IsCellLine name part value line × (is_name name ≡ true) × IsOnePart part × IsValue given value
HasForm line (run name key bytes) = (value : List ℕ) × IsCellLine name (from key) value line × (is_name name ≡ true) × (is_key key ≡ true) × IsRun bytes value

-- The form of a line, computed.
use Rattle.std.specs.Prelude.{ℕ, ◌+◌, Bool, false, List, [], ◌∷◌, Option, Some, None, option_map, ◌==◌, ◌&&◌, not, nat_lt, nat_le, bytes_eq, codes, length, take, drop, Result, Ok, Err, if◌then◌else◌}
use Rattle.std.specs.List.{prefix_len}
use Rattle.hex.specs.Hex.{decode_of}
use Rattle.hex.specs.declared.error.FromHexError.{FromHexError}
use Rattle.semantics_values.specs.declared.entry.GivenNumber.{GivenNumber}
use Rattle.semantics_values.specs.declared.entry.GivenNumber.TheVariants.{One, Any, Range}
use Rattle.state_cell_text.specs.Digits.{hex_number}
use Rattle.state_text.specs.Forms.{Form, single, run, most_run, CellSuffix, whole, rest, at, from, begins_name, is_mark, is_word_byte}

-- ---- the cell

-- a name, what is written behind it of the cell, and what follows
pub record Cut : Type 0 where
  pub name : List ℕ
  pub part : CellSuffix
  pub after : List ℕ

abbrev pub cut_at : List ℕ → CellSuffix → List ℕ → Option Cut
cut_at name part after = Some (record { name = name; part = part; after = after })

-- behind `[KEY]`
abbrev pub behind_key : List ℕ → List ℕ → List ℕ → Option Cut
behind_key name [] after = None
behind_key name (k ∷ key) after = cut_at name (at (k ∷ key)) after

-- behind `[KEY.`
abbrev pub behind_dot : List ℕ → List ℕ → List ℕ → Option Cut
behind_dot name [] bytes = None
behind_dot name (k ∷ key) [] = None
behind_dot name (k ∷ key) (b ∷ []) = None
behind_dot name (k ∷ key) (b ∷ c ∷ after) = if b == 46 && c == 93 then cut_at name (from (k ∷ key)) after else None

-- behind `[*`, where nothing stands between
abbrev pub behind_star : List ℕ → List ℕ → List ℕ → Option Cut
behind_star name (k ∷ key) bytes = None
behind_star name [] [] = None
behind_star name [] (b ∷ after) = if b == 93 then cut_at name rest after else None

-- behind `[` and the text of a key
abbrev pub cut_closing : List ℕ → List ℕ → List ℕ → Option Cut
cut_closing name key [] = None
cut_closing name key (b ∷ bytes) = if b == 93 then behind_key name key bytes else (if b == 46 then behind_dot name key bytes else (if b == 42 then behind_star name key bytes else None))

-- behind a name
abbrev pub cut_name : List ℕ → List ℕ → Option Cut
cut_name name [] = cut_at name whole []
cut_name name (b ∷ bytes) = if b == 91
    then cut_closing name (take (prefix_len is_word_byte bytes) bytes) (drop (prefix_len is_word_byte bytes) bytes)
    else cut_at name whole (b ∷ bytes)

abbrev pub named : List ℕ → List ℕ → Option Cut
named name bytes = if is_mark name then None else cut_name name bytes

-- the cell that a line begins with
abbrev pub cut : List ℕ → Option Cut
cut line = if begins_name line then named (take (prefix_len is_word_byte line) line) (drop (prefix_len is_word_byte line) line) else None

-- ---- the value

abbrev pub is_no_dot : ℕ → Bool
is_no_dot b = not (b == 46)

abbrev pub begins_dots : List ℕ → Bool
begins_dots [] = false
begins_dots (a ∷ []) = false
begins_dots (a ∷ b ∷ bytes) = a == 46 && b == 46

abbrev pub range_of : Option ℕ → Option ℕ → Option GivenNumber
range_of None hi = None
range_of (Some lo) None = None
range_of (Some lo) (Some hi) = if nat_le lo hi then Some (Range lo hi) else None

-- `LO..HI`
abbrev pub range : List ℕ → Option GivenNumber
range bytes = if begins_dots (drop (prefix_len is_no_dot bytes) bytes)
    then range_of (hex_number 16 (take (prefix_len is_no_dot bytes) bytes)) (hex_number 16 (drop (prefix_len is_no_dot bytes + 2) bytes))
    else None

abbrev pub one_or : Option ℕ → Option GivenNumber → Option GivenNumber
one_or None other = other
one_or (Some v) other = Some (One v)

-- 1 to 16 hex digits, `any`, or `LO..HI`
abbrev pub value_of : List ℕ → Option GivenNumber
value_of bytes = if bytes_eq bytes (codes "any") then Some Any else one_or (hex_number 16 bytes) (range bytes)

abbrev pub counted : Result (List ℕ) FromHexError → Option (List ℕ)
counted (Err e) = None
counted (Ok bytes) = if nat_lt 0 (length bytes) && nat_le (length bytes) most_run then Some bytes else None

-- pairs of hex digits for 1 to 4,096 bytes
abbrev pub run_of : List ℕ → Option (List ℕ)
run_of text = counted (decode_of text)

-- ---- the line

abbrev pub formed : List ℕ → CellSuffix → List ℕ → Option Form
formed name (from key) value = option_map (run name key) (run_of value)
formed name part value = option_map (single name part) (value_of value)

abbrev pub is_space : ℕ → Bool
is_space b = b == 32

-- behind a cell: one or more spaces, and a value
abbrev pub after_cell : Option Cut → Option Form
after_cell None = None
after_cell (Some c) = if nat_lt 0 (prefix_len is_space c.after) then formed c.name c.part (drop (prefix_len is_space c.after) c.after) else None

-- what a line has, if it is one of the forms
abbrev pub form : List ℕ → Option Form
form line = after_cell (cut line)

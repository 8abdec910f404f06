-- What stands behind the element of a block, read: the uses, the next addresses and the exits.
use Rattle.std.specs.Prelude.{ℕ, Bool, true, List, [], ◌∷◌, Option, Some, None, bytes_eq, codes, is_some, option_map, if◌then◌else◌}
use Rattle.std.specs.List.{list_all}
use Rattle.std.specs.Option.{option_and_then, option_zip}
use Rattle.base_trait.specs.Uses.{Seen}
use Rattle.spec_ir.specs.declared.ty.Ty.TheVariants.{Map as MapOf}
use Rattle.spec_ir.specs.Specification.{Spec}
use Rattle.code_image.specs.Image.{Image, code_at}
use Rattle.state_cell_text.specs.Keys.{keys_of}
use Rattle.state_cell_text.specs.Places.{Field, state_fields}
use Rattle.domain_laws.specs.declared.field.Field.{Field as StateField}
use Rattle.domain_laws.specs.States.{state_type}
use Rattle.analysis_transfer_laws.specs.Uses.{is_cell_before}
use Rattle.text_words.specs.Reading.{addresses_in, behind, stamps_in}
use Rattle.text_part_readers.specs.Keys.{key_in}
use Rattle.text_part_readers.specs.Pieces.{cut}
use Rattle.text_lines.specs.Lines.{Lines}
use Rattle.text_lines.specs.Outcomes.{Reading, all_said, one}

-- whether an address is that of a code word of the image
abbrev pub is_word_of : Image → ℕ → Bool
is_word_of image a = is_some (code_at image a)

-- ---- addresses

-- addresses, where each passes a test
abbrev pub kept : (ℕ → Bool) → List ℕ → Option (List ℕ)
kept test addresses = if list_all test addresses then Some addresses else None

-- the addresses that a line names behind a word, where each passes a test
abbrev pub addresses_said : List ℕ → (ℕ → Bool) → List ℕ → Option (List ℕ)
addresses_said word test line = option_and_then (kept test) (option_and_then addresses_in (behind word line))

-- what was read, or nothing
abbrev pub or_empty : Reading (List ℕ) → List ℕ × Lines
or_empty (None, ls) = ([], ls)
or_empty (Some addresses, ls) = (addresses, ls)

-- the addresses that the first line names behind a word, and the lines behind it; or none, and all lines
abbrev pub read_addresses : List ℕ → (ℕ → Bool) → Lines → List ℕ × Lines
read_addresses word test ls = or_empty (one (addresses_said word test) ls)

-- ---- uses

-- the first field of a name
abbrev pub field_named : List ℕ → List Field → Option Field
field_named name [] = None
field_named name (f ∷ fields) = if bytes_eq f.0 name then Some f else field_named name fields

-- the number of the map that a field is
abbrev pub map_of : Field → Option ℕ
map_of (name, MapOf m) = Some m
map_of (name, _) = None

-- a key of a map, or any
abbrev pub use_key : Spec → ℕ → List ℕ → Option (Option ℕ)
use_key spec m text = if bytes_eq text (codes "*") then Some None else option_map Some (key_in spec (keys_of spec (MapOf m)) text)

-- the name in a line of a use, and what stands behind the bracket
abbrev pub name_said : List ℕ → Option (List ℕ × List ℕ)
name_said line = option_and_then (cut 91) (behind (codes "use ") line)

module _ (spec : Spec) (is_word : ℕ → Bool) where
  -- a use of a map, by the texts of the key and of the stamps
  abbrev pub use_of_map : List ℕ × List ℕ → ℕ → Option Seen
  use_of_map parts m = option_map (λ p. record { of_map = m; key = p.0; stamps = p.1 }) (option_zip (use_key spec m parts.0) (stamps_in is_word parts.1))

  -- what stands behind `NAME[` is a key, `]` and stamps
  abbrev pub use_behind : List ℕ × List ℕ → Option Seen
  use_behind parts = option_and_then (λ m. option_and_then (λ p. use_of_map p m) (cut 93 parts.1)) (option_and_then map_of (field_named parts.0 (state_fields spec)))

  -- `use NAME[KEY] from STAMPS`: the use that a line is
  abbrev pub use_said : List ℕ → Option Seen
  use_said line = option_and_then use_behind (name_said line)

-- a use of a cell that comes after that of the last use
abbrev pub is_use_behind : List StateField → List Seen → Seen → Bool
is_use_behind fields [] u = true
is_use_behind fields (last ∷ []) u = is_cell_before fields last u
is_use_behind fields (first ∷ second ∷ uses) u = is_use_behind fields (second ∷ uses) u

abbrev pub kept_use : List StateField → List Seen → Seen → Option Seen
kept_use fields uses u = if is_use_behind fields uses u then Some u else None

-- the use that a line is, where its cell comes after that of the last one given
abbrev pub next_use : Spec → (ℕ → Bool) → List StateField → List Seen → List ℕ → Option Seen
next_use spec is_word fields uses line = option_and_then (kept_use fields uses) (use_said spec is_word line)

-- the uses that the first lines are, each of a cell after the last one's, and the lines behind them
abbrev pub read_uses : Spec → (ℕ → Bool) → List StateField → Lines → List Seen × Lines
read_uses spec is_word fields ls = all_said (next_use spec is_word fields) [] ls

-- ---- all of it

-- uses, next addresses and exits, and the lines behind them
pub record End : Type 0 where
  pub uses : List Seen
  pub next : List ℕ
  pub exits : List ℕ
  pub left : Lines

abbrev pub with_exits : List Seen → List ℕ → List ℕ × Lines → End
with_exits uses next read = record { uses = uses; next = next; exits = read.0; left = read.1 }

-- An exit may be any address.
abbrev pub with_next : List Seen → List ℕ × Lines → End
with_next uses read = with_exits uses read.0 (read_addresses (codes "exit ") (λ a. true) read.1)

abbrev pub with_uses : (ℕ → Bool) → List Seen × Lines → End
with_uses is_word read = with_next read.0 (read_addresses (codes "next ") is_word read.1)

-- Of lines: what the first ones say, where the next addresses are those of code words.
abbrev pub read_end : Spec → (ℕ → Bool) → Lines → End
read_end spec is_word ls = with_uses is_word (read_uses spec is_word (state_type spec).fields ls)

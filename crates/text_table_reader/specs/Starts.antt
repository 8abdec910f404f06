-- The address of a block, read.
use Rattle.std.specs.Prelude.{ℕ, Bool, ◌&&◌, nat_le, List, Option, Some, None, codes, if◌then◌else◌}
use Rattle.std.specs.Option.{option_and_then}
use Rattle.text_words.specs.Reading.{behind, number_in}
use Rattle.text_lines.specs.Lines.{Lines, first_line}

module _ (is_word : ℕ → Bool) where
  -- the address of a code word, at least so great
  abbrev pub address_from : ℕ → Option ℕ → Option ℕ
  address_from low None = None
  address_from low (Some at) = if nat_le low at && is_word at then Some at else None

  -- `at ADDRESS`
  abbrev pub at_said : ℕ → List ℕ → Option ℕ
  at_said low line = address_from low (option_and_then (number_in 32) (behind (codes "at ") line))

  abbrev pub with_lines : Lines → Option ℕ → Option (ℕ × Lines)
  with_lines ls None = None
  with_lines ls (Some at) = Some (at, ls)

  abbrev pub read_at_of : ℕ → Option (List ℕ × Lines) → Option (ℕ × Lines)
  read_at_of low None = None
  read_at_of low (Some cut) = with_lines cut.1 (at_said low cut.0)

  -- the address of a block, which the first line names, and the lines behind it
  abbrev pub read_at : ℕ → Lines → Option (ℕ × Lines)
  read_at low ls = read_at_of low (first_line ls)

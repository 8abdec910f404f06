-- How a block ends that is left open, read.
use Rattle.std.specs.Prelude.{ℕ, ◌==◌, Bool, true, false, List, [], ◌∷◌, Option, None, codes, option_map, if◌then◌else◌}
use Rattle.std.specs.Option.{option_and_then, option_or}
use Rattle.fixpoint_open_tables.specs.declared.ending.Ending.{Ending}
use Rattle.fixpoint_open_tables.specs.declared.ending.Ending.TheVariants.{Open, Undecodable}
use Rattle.text_words.specs.Reading.{behind, number_in}
use Rattle.text_lines.specs.Outcomes.{Reading, one}
use Rattle.text_element_readers.specs.Words.{WordReading}
use Rattle.text_table_reader.specs.Ends.{End}

-- a block without next addresses and exits, which alone may have an ending
abbrev pub may_end : List ℕ → List ℕ → Bool
may_end [] [] = true
may_end _ _ = false

-- `undecodable WORD`, a code word in 8 digits
abbrev pub undecodable_said : {W : Type 0} → List ℕ → Option (Ending W)
undecodable_said line = option_map (λ word. Undecodable word) (option_and_then (number_in 32) (behind (codes "undecodable ") line))

-- Where words of 32 bits are read so:
module _ {W : Type 0} (word_in : WordReading W) where
  -- `open WORD`
  abbrev pub open_said : List ℕ → Option (Ending W)
  open_said line = option_map (λ shown. Open shown) (option_and_then word_in (behind (codes "open ") line))

  -- the ending that a line says
  abbrev pub ending_said : List ℕ → Option (Ending W)
  ending_said line = option_or (open_said line) (undecodable_said line)

  -- behind uses, next addresses and exits: the ending, where the block may have one and the first line is one, and the lines behind it
  abbrev pub read_ending : End → Reading (Ending W)
  read_ending e = if may_end e.next e.exits then one ending_said e.left else (None, e.left)

-- endings by the addresses of their blocks; none, where a block has none
abbrev pub endings_in : {W : Type 0} → List (ℕ × Option (Ending W)) → ℕ → Option (Ending W)
endings_in [] a = None
endings_in (e ∷ ends) a = if e.0 == a then e.1 else endings_in ends a

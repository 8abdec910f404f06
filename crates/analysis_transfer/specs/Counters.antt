-- The counter of a state value, part by part.
use Rattle.std.specs.Prelude.{ℕ, Option, Some, None}
use Rattle.abstract_value_laws.specs.Abs.{Abs, Cases, Parts, no_case, present, no_part, part, word}

module _ {W N : Type 0} where
  -- the width and the word of a value, where it is a word
  abbrev pub word_of : Abs W N → Option (ℕ × W)
  word_of (word w x) = Some (w, x)
  word_of _ = None

  -- those of the first part
  abbrev pub first_word : Parts W N → Option (ℕ × W)
  first_word no_part = None
  first_word (part x xs) = word_of x

  -- those of the first part of the one constructor
  abbrev pub word_in : Cases W N → Option (ℕ × W)
  word_in (present xs no_case) = first_word xs
  word_in _ = None

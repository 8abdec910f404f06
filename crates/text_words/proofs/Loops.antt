-- Items that are read one by one.
use Rattle.std.proofs.Common.{◌+◌, ℕ, Bool, List, ◌++◌, length, Option, Some, None, option_map}
use Rattle.text_words.specs.Pieces.{items_in, pieces_left}

-- how much is left
abbrev pub left_len : Option (List ℕ) → ℕ
left_len None = 0
left_len (Some text) = length text + 1

module _ {A : Type 0} where
  -- what is out, in front of what comes of the rest
  abbrev pub with_out : List A → Option (List A) → Option (List A)
  with_out out rest = option_map (λ xs. out ++ xs) rest

  module _ (is_before : A → A → Bool) (read : List ℕ → Option A) (separator : ℕ) where
    -- what comes of what is left
    abbrev pub to_come : Option A → Option (List ℕ) → Option (List A)
    to_come last left = items_in is_before read last (pieces_left separator left)

-- Items that are read of a text with a separator between.
use Rattle.std.specs.Prelude.{ℕ, Bool, true, List, [], ◌∷◌, ◌==◌, Option, Some, None, option_map, if◌then◌else◌}
use Rattle.std.specs.Option.{option_and_then}

-- a byte in front of the first text
abbrev pub onto_first : ℕ → List (List ℕ) → List (List ℕ)
onto_first b [] = (b ∷ []) ∷ []
onto_first b (text ∷ texts) = (b ∷ text) ∷ texts

-- the texts between the separators of a text
abbrev pub pieces : ℕ → List ℕ → List (List ℕ)
pieces separator [] = [] ∷ []
pieces separator (b ∷ bytes) = if b == separator then [] ∷ pieces separator bytes else onto_first b (pieces separator bytes)

-- the texts of what is left, where something is
abbrev pub pieces_left : ℕ → Option (List ℕ) → List (List ℕ)
pieces_left separator None = []
pieces_left separator (Some text) = pieces separator text

module _ {A : Type 0} (is_before : A → A → Bool) where
  -- whether an item may stand behind the last one, where there is one
  abbrev pub is_behind : Option A → A → Bool
  is_behind None x = true
  is_behind (Some last) x = is_before last x

  -- an item, where it may stand behind the last one
  abbrev pub next_item : Option A → Option A → Option A
  next_item last None = None
  next_item last (Some x) = if is_behind last x then Some x else None

  module _ (read : List ℕ → Option A) where
    -- the items that texts are, where each comes before the next
    abbrev pub items_in : Option A → List (List ℕ) → Option (List A)
    items_in last [] = Some []
    items_in last (text ∷ texts) = option_and_then (λ x. option_map (λ xs. x ∷ xs) (items_in (Some x) texts)) (next_item last (read text))

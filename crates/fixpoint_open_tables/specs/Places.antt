-- Values in a list, with the place of each key.
use Rattle.std.specs.Prelude.{ℕ, ◌<◌, List, [], ◌∷◌, Option, Some, None, All, length, slice_get}
use Rattle.std.specs.Map.{values_of}

module _ {X : Type 0} where
  -- a key with its value in front of others, if it has one
  abbrev pub in_front : ℕ → Option X → List (ℕ × X) → List (ℕ × X)
  in_front key None es = es
  in_front key (Some x) es = (key, x) ∷ es

  -- the keys, with the values at their places
  abbrev pub placed : List X → List (ℕ × ℕ) → List (ℕ × X)
  placed xs [] = []
  placed xs (p ∷ ps) = in_front p.0 (slice_get xs p.1) (placed xs ps)

  -- each place is in the list
  abbrev pub AreInside : List X → List (ℕ × ℕ) → Type 0
  AreInside xs ps = All (λ i. i < length xs) (values_of ps)

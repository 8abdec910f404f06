-- The values of an element with another one at a place.
use Rattle.std.specs.Prelude.{ℕ, suc, List, ◌∷◌, ◌++◌, take, drop}
use Rattle.abstract_value_laws.specs.Abs.{Abs, Parts, parts}

module _ {W N : Type 0} where
  -- those before the place, the other, and those behind
  abbrev pub around : List (Abs W N) → ℕ → Abs W N → List (Abs W N)
  around xs n x = take n xs ++ x ∷ drop (suc n) xs

  abbrev pub with_value : List (Abs W N) → ℕ → Abs W N → Parts W N
  with_value xs n x = parts (around xs n x)

-- Pieces of elements of cells: one word is cut.
use Rattle.std.specs.Prelude.{ℕ, zero, suc, ◌^◌, Bool, ◌&&◌, ◌||◌, nat_lt, List, ◌∷◌, length, Option, Some, option_map, if◌then◌else◌}
use Rattle.base_trait.specs.Algebra.{Algebra}
use Rattle.abstract_map_laws.specs.Calls.{update_of}
use Rattle.abstract_map_laws.specs.Keys.{has_key, one}
use Rattle.abstract_map_laws.specs.Maps.{Map, cell, keys}
use Rattle.semantics_values.specs.declared.entry.KeyAt.{KeyAt}
use Rattle.semantics_values.specs.declared.entry.KeyAt.TheVariants.{Whole, At}
use Rattle.abstract_value_laws.specs.Abs.{Abs, Parts, part, word, map}
use Rattle.domain_laws.specs.declared.field.Field.{Field}
use Rattle.domain_laws.specs.declared.field.Field.TheVariants as field
use Rattle.base_cuts.specs.Cuts.{Cuts}
use Rattle.fixpoint_cases.specs.Pieces.{Piece}

module _ {W N C : Type 0} (B : Algebra W N C) (K : Cuts W C) (c : C) (cap : ℕ) where
  -- a map with another word at a key
  abbrev pub with_word : Map W N → ℕ → W → Map W N
  with_word m k y = update_of B c cap m (one k) (record { word = y; note = (cell m k).note })

  -- whether a word can stand at the key: the key is one of the type's, and is listed, or there is room to list it
  abbrev pub can_stand : ℕ → Map W N → ℕ → Bool
  can_stand bound m k = nat_lt k bound && (nat_lt k (2 ^ 32) && (has_key (keys m) k || nat_lt (length m.cells) cap))

  -- of a map whose type has so many keys, cut at a key
  abbrev pub map_piece : ℕ → ℕ → ℕ → ℕ → Map W N → Option (Map W N)
  map_piece bound k low high m = if can_stand bound m k then option_map (with_word m k) (K.meet c m.width (cell m k).word low high) else Some m

  abbrev pub value_piece : Field → KeyAt → ℕ → ℕ → Abs W N → Option (Abs W N)
  value_piece (field.Word w) Whole low high (word u x) = option_map (word u) (K.meet c u x low high)
  value_piece (field.Map m bound width default) (At k) low high (map n x) = option_map (map n) (map_piece bound k low high x)
  value_piece f key low high x = Some x

  -- of the values of these fields, number n cut, from 0
  abbrev pub values_piece : List Field → ℕ → KeyAt → ℕ → ℕ → Parts W N → Option (Parts W N)
  values_piece (f ∷ fields) zero key low high (part x xs) = option_map (λ y. part y xs) (value_piece f key low high x)
  values_piece (f ∷ fields) (suc n) key low high (part x xs) = option_map (part x) (values_piece fields n key low high xs)
  values_piece _ n key low high xs = Some xs

  abbrev pub field_piece : List Field → ℕ → KeyAt → ℕ → ℕ → Parts W N → Option (Parts W N)
  field_piece fields zero key low high xs = Some xs
  field_piece fields (suc n) key low high xs = values_piece fields n key low high xs

  -- The piece of an element of these fields. The counter is no part of an element and is not cut.
  abbrev pub cell_piece : List Field → Piece (ℕ × KeyAt) (Parts W N)
  cell_piece fields place low high xs = field_piece fields place.0 place.1 low high xs

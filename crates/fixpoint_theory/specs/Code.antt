-- The code of an analysis: the addresses of its code words. An image of several segments is their list.
use Rattle.std.specs.Prelude.{ℕ, ◌≤◌, ◌==◌, Bool, List, ◌∷◌, length, map, not, filter}
use Rattle.std.specs.List.{list_any}
use Rattle.base_trait.specs.Lists.{IsAscending}
use Rattle.base_trait.specs.declared.uses.Stamp.{Stamp}
use Rattle.base_trait.specs.declared.uses.Stamp.TheVariants.{Entry, At}

-- whether an address is that of a code word
abbrev pub is_code : List ℕ → ℕ → Bool
is_code code at = list_any (λ a. a == at) code

-- The addresses of the words of an image, whatever its segments: they ascend.
pub record IsImage (code : List ℕ) : Type 0 where
  pub ascends : IsAscending code
  -- as many words as 1,048,576 bytes have
  pub few : length code ≤ 262144

-- the stamps that can occur in an analysis of the code
abbrev pub stamps_of : List ℕ → List Stamp
stamps_of code = Entry ∷ map (λ a. At a) code

-- of targets, those that are code addresses, and the others
abbrev pub inside : List ℕ → List ℕ → List ℕ
inside code targets = filter (is_code code) targets

abbrev pub outside : List ℕ → List ℕ → List ℕ
outside code targets = filter (λ a. not (is_code code a)) targets

-- The constructors of a datatype as a list: the fields of each, or none where it is missing.
use Rattle.std.specs.Prelude.{◌≡◌, ℕ, length, zero, suc, ⊤, ◌-◌, ◌<◌, Option, Some, None, map, replicate, List, [], ◌∷◌, ◌++◌, if◌then◌else◌, ◌==◌}
use Rattle.abstract_value.specs.declared.constructors.Constructor.{Constructor}
use Rattle.abstract_value.specs.declared.constructors.Constructors.{Constructors}
use Rattle.abstract_value.specs.declared.constructors.Present.{Present}
use Rattle.abstract_value.specs.declared.constructors.Present.TheVariants.{One, Several}

module _ {T : Type 0} where
  -- number and fields
  abbrev pub entry : Constructor T → ℕ × List T
  entry c = (c.number, c.fields.value.items)

  abbrev pub listed : Present T → List (ℕ × List T)
  listed (One c) = entry c ∷ []
  listed (Several cs) = map entry cs.items

  -- the fields of the first of a number
  abbrev pub fields_in : List (ℕ × List T) → ℕ → Option (List T)
  fields_in [] k = None
  fields_in (e ∷ es) k = if e.0 == k then Some e.1 else fields_in es k

  -- so many constructors, from a number on
  abbrev pub places : List (ℕ × List T) → ℕ → ℕ → List (Option (List T))
  places es k zero = []
  places es k (suc n) = fields_in es k ∷ places es (suc k) n

  abbrev pub spread : Constructors T → List (Option (List T))
  spread cs = places (listed cs.present) 0 cs.count

  -- of n constructors the one of a number is present
  abbrev pub only : ℕ → ℕ → List T → List (Option (List T))
  only n k f = (replicate k None ++ Some f ∷ []) ++ replicate (n - k - 1) None

  -- the one of a number is present alone
  pub record IsOnly (l : List (Option (List T))) (k : ℕ) (f : List T) : Type 0 where
    pub within : k < length l
    pub is : l ≡ only (length l) k f

  -- all numbers are less
  abbrev pub Below : ℕ → List (ℕ × List T) → Type 0
  Below n [] = ⊤
  Below n (e ∷ es) = (e.0 < n) × Below n es

  -- no constructor is there that the datatype has not
  abbrev pub AreWithin : Constructors T → Type 0
  AreWithin cs = Below cs.count (listed cs.present)

-- the one of a number is present alone in both
pub record AreOnly {T U : Type 0} (l : List (Option (List T))) (m : List (Option (List U))) (k : ℕ) (f : List T) (g : List U) : Type 0 where
  pub first : IsOnly l k f
  pub second : IsOnly m k g
  pub lengths : length l ≡ length m

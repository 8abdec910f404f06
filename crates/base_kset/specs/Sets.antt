-- Sets of at most K numbers, or any. A set is the list of its numbers, ascending without doubles.
use Rattle.std.specs.Prelude.{ℕ, ◌+◌, ◌-◌, ◌^◌, ◌<◌, ◌≤◌, Bool, List, [], ◌∷◌, map, length, Option, Some, None, ◌&&◌, ◌==◌, nat_lt, nat_le, if◌then◌else◌}
use Rattle.std.specs.List.{list_any, list_all, flat_map, range_with_len}
use Rattle.base_trait.specs.Lists.{Each, IsAscending, ascends_from}

-- the number in its place, once
abbrev pub placed : ℕ → List ℕ → List ℕ
placed x [] = x ∷ []
placed x (y ∷ ys) = if nat_lt x y then x ∷ y ∷ ys else (if x == y then y ∷ ys else y ∷ placed x ys)

-- the set with more numbers
abbrev pub set_with : List ℕ → List ℕ → List ℕ
set_with s [] = s
set_with s (x ∷ xs) = set_with (placed x s) xs

-- the set of these numbers
abbrev pub set_of : List ℕ → List ℕ
set_of = set_with []

-- the set has this number
abbrev pub has : List ℕ → ℕ → Bool
has s n = list_any (λ x. x == n) s

abbrev pub items_or_none : Option (List ℕ) → List ℕ
items_or_none None = []
items_or_none (Some s) = s

module _ (K : ℕ) where
  -- the set where it has at most K numbers, else any
  abbrev pub bounded : List ℕ → Option (List ℕ)
  bounded s = if nat_le (length s) K then Some s else None

  -- what f gives of each number
  abbrev pub images : (ℕ → ℕ) → Option (List ℕ) → Option (List ℕ)
  images f None = None
  images f (Some s) = bounded (set_of (map f s))

  -- what f gives of each number of the one and each of the other
  abbrev pub products : (ℕ → ℕ → ℕ) → Option (List ℕ) → Option (List ℕ) → Option (List ℕ)
  products f (Some s) (Some t) = bounded (set_of (flat_map (λ x. map (f x) t) s))
  products f _ _ = None

  abbrev pub union : Option (List ℕ) → Option (List ℕ) → Option (List ℕ)
  union (Some s) (Some t) = bounded (set_with s t)
  union _ _ = None

  -- the numbers from low to high
  abbrev pub from_to : ℕ → ℕ → Option (List ℕ)
  from_to low high = if nat_lt (high - low) K then Some (range_with_len low (high - low + 1)) else None

  -- one more number, and several, one by one
  abbrev pub add : Option (List ℕ) → ℕ → Option (List ℕ)
  add None x = None
  add (Some s) x = bounded (placed x s)

  abbrev pub add_all : Option (List ℕ) → List ℕ → Option (List ℕ)
  add_all s [] = s
  add_all s (x ∷ xs) = add_all (add s x) xs

  -- a set of 1 to K numbers of w bits
  pub record IsSet (w : ℕ) (s : List ℕ) : Type 0 where
    pub some : 1 ≤ length s
    pub few : length s ≤ K
    pub ascending : IsAscending s
    pub below : Each (λ n. n < 2 ^ w) s

  -- whether it is one
  abbrev pub is_set : ℕ → List ℕ → Bool
  is_set w s = nat_le 1 (length s) && (nat_le (length s) K && (ascends_from 0 s && list_all (λ n. nat_lt n (2 ^ w)) s))

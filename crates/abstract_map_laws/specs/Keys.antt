-- Ascending lists of keys.
use Rattle.std.specs.Prelude.{ℕ, ◌==◌, ◌^◌, ◌<◌, nat_lt, Bool, List, [], ◌∷◌, if◌then◌else◌, ⊤}
use Rattle.std.specs.List.{list_any}

-- whether the key is one of the list
abbrev pub has_key : List ℕ → ℕ → Bool
has_key ks k = list_any (λ j. j == k) ks

-- one more key, at its place
abbrev pub with_key : ℕ → List ℕ → List ℕ
with_key k [] = k ∷ []
with_key k (j ∷ js) = if nat_lt k j then k ∷ j ∷ js else if k == j then j ∷ js else j ∷ with_key k js

-- the keys of either list
abbrev pub either_key : List ℕ → List ℕ → List ℕ
either_key [] js = js
either_key (k ∷ ks) js = with_key k (either_key ks js)

-- which keys a key may be: one, or each of some listed ones and, unless all is listed, each that is not listed
pub data Keys : Type 0 where
  one : ℕ → Keys
  some : List ℕ → Bool → Keys

-- a key that is written is below 2^32
abbrev pub IsKeyed : Keys → Type 0
IsKeyed (one k) = k < 2 ^ 32
IsKeyed (some ks all_listed) = ⊤

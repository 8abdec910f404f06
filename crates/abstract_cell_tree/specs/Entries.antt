-- Ascending lists of entries: a key with its value.
use Rattle.std.specs.Prelude.{◌≡◌, ℕ, suc, ◌+◌, ◌≤◌, ◌==◌, nat_lt, List, [], ◌∷◌, Option, Some, None, if◌then◌else◌}
use Rattle.base_trait.specs.Lists.{Each}

module _ {A : Type 0} where
  -- what is listed at a key
  abbrev pub listed_at : ℕ → List (ℕ × A) → Option A
  listed_at k [] = None
  listed_at k (e ∷ es) = if e.0 == k then Some e.1 else listed_at k es

  -- an entry put at its key's place
  abbrev pub put : ℕ → A → List (ℕ × A) → List (ℕ × A)
  put k x [] = (k, x) ∷ []
  put k x (e ∷ es) = if nat_lt k e.0 then (k, x) ∷ e ∷ es else (if k == e.0 then (k, x) ∷ es else e ∷ put k x es)

  -- the entries without that of a key
  abbrev pub removed : ℕ → List (ℕ × A) → List (ℕ × A)
  removed k [] = []
  removed k (e ∷ es) = if e.0 == k then es else e ∷ removed k es

  -- keys ascend without doubles, from low on and below high
  abbrev pub Between : ℕ → ℕ → List (ℕ × A) → Type 0
  Between low high [] = low ≤ high
  Between low high (e ∷ es) = (low ≤ e.0) × Between (e.0 + 1) high es

  -- how many entries stand before the first whose key is no less
  abbrev pub place_of : ℕ → List (ℕ × A) → ℕ
  place_of k [] = 0
  place_of k (e ∷ es) = if nat_lt e.0 k then suc (place_of k es) else 0

  -- the same is listed at the key of each of some entries
  abbrev pub Alike : List (ℕ × A) → List (ℕ × A) → List (ℕ × A) → Type 0
  Alike es xs ys = Each (λ e. listed_at e.0 xs ≡ listed_at e.0 ys) es

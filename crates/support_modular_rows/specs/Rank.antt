-- How far the members of a submodule are from taking all values.
use Rattle.std.specs.Prelude.{◌≡◌, ◌≢◌, ℕ, ◌+◌, ◌%◌, ◌^◌, ◌<◌, ◌≤◌, List, length, slice_index, sum}
use Rattle.support_modular_rows.specs.Submodule.{Congruent, IsMember}

-- x is a member that has 0 in each column before c
abbrev pub LeadsFrom : ℕ → List (List ℕ) → ℕ → List ℕ → Type 0
LeadsFrom k rows c x = IsMember k rows x × ((j : ℕ) → j < c → Congruent (slice_index x j) 0)

-- v is the greatest number up to 32 such that 2 ^ v divides the entry in column c of each member that has 0 before it:
-- if it is not 32, then there is such a member whose entry 2 ^ (v + 1) does not divide
pub record IsExponent (k : ℕ) (rows : List (List ℕ)) (c v : ℕ) : Type 0 where
  pub limit : v ≤ 32
  pub divides : (x : List ℕ) → LeadsFrom k rows c x → slice_index x c % 2 ^ v ≡ 0
  pub greatest : v < 32 → (x : List ℕ) × LeadsFrom k rows c x × (slice_index x c % 2 ^ (v + 1) ≢ 0)

-- n is the sum of the columns' exponents
abbrev pub IsRank : ℕ → List (List ℕ) → ℕ → Type 0
IsRank k rows n = (vs : List ℕ) × (length vs ≡ k + 1) × ((c : ℕ) → c ≤ k → IsExponent k rows c (slice_index vs c)) × (n ≡ sum vs)

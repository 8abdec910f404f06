-- Claims of the states at an address.
use Rattle.std.specs.Prelude.{ℕ, ◌+◌, ◌*◌, ◌≤◌, ◌≢◌, List, [], ◌∷◌}
use Rattle.support_modular_rows.specs.Submodule.{Congruent}
use Rattle.semantics_values.specs.declared.entry.KeyAt.{KeyAt}
use Rattle.semantics_values.specs.States.{State}
use Rattle.domain_affine_element_laws.specs.Tracked.{number_at}

-- a multiple of a cell: how often, the number of its field, and its key
abbrev pub Multiple : Type 0
Multiple = ℕ × ℕ × KeyAt

pub data Claim : Type 0 where
  -- at an address, the number of a cell lies in a range
  range : ℕ → ℕ → KeyAt → ℕ → ℕ → Claim
  -- at an address, a number and multiples of cells add to 0, modulo 2 ^ 32
  sum : ℕ → ℕ → List Multiple → Claim
  -- at an address, a cell does not have a number
  differs : ℕ → ℕ → KeyAt → ℕ → Claim
  -- no run comes to an address
  never : ℕ → Claim

abbrev pub address_of : Claim → ℕ
address_of (range at field key lo hi) = at
address_of (sum at c parts) = at
address_of (differs at field key v) = at
address_of (never at) = at

-- a number and multiples of the numbers that cells have in a state
abbrev pub total : State → ℕ → List Multiple → ℕ
total s c [] = c
total s c (p ∷ parts) = p.0 * number_at s (p.1, p.2) + total s c parts

-- The claim is true of a state at its address. That no run comes there is true of none.
abbrev pub IsTrueOf : State → Claim → Type 0
IsTrueOf s (range at field key lo hi) = (lo ≤ number_at s (field, key)) × (number_at s (field, key) ≤ hi)
IsTrueOf s (sum at c parts) = Congruent (total s c parts) 0
IsTrueOf s (differs at field key v) = number_at s (field, key) ≢ v
IsTrueOf s (never at) = ⊥

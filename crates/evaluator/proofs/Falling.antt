-- The room that is left falls, and at the same room the functions of the evaluator call one another in order.
use Rattle.std.proofs.Common.{◌≡◌, ◌+◌, ◌*◌, ◌-◌, ◌<◌, ◌≤◌, ℕ, arith}

module _ (room t : ℕ) where
  -- of the function of number k, one of a lower number
  pub same_room : (j k : ℕ) → j < k → 12 * room + k ≡ t → 12 * room + j < t
  same_room j k lt e = omega (arith, lt, e)

  -- or any, with less room
  pub less_room : (j k : ℕ) → j < 12 → 1 ≤ room → 12 * room + k ≡ t → 12 * (room - 1) + j < t
  less_room j k lt some e = omega (arith, lt, some, e)

  pub no_more_room : (other j k : ℕ) → j < k → other ≤ room → 12 * room + k ≡ t → 12 * other + j < t
  no_more_room other j k lt le e = omega (arith, lt, le, e)

-- The rank of what rows generate, as a number that trial finds: what support_modular_rows specs/Rank says of it, as a function.
use Rattle.std.specs.Prelude.{ℕ, zero, suc, ◌+◌, ◌%◌, ◌^◌, Bool, ◌&&◌, ◌==◌, not, List, [], ◌∷◌, if◌then◌else◌, slice_index, sum}
use Rattle.domain_affine_element_laws.specs.Membership.{all_below, is_member, some_below}

-- some vector of n numbers below 2 ^ 32 passes the test
unfoldable pub some_vector : ℕ → (List ℕ → Bool) → Bool
some_vector zero test = test []
some_vector (suc n) test = some_below (2 ^ 32) (λ x. some_vector n (λ xs. test (x ∷ xs)))

-- the first n numbers
unfoldable pub first_numbers : ℕ → (ℕ → ℕ) → List ℕ
first_numbers zero numbers = []
first_numbers (suc n) numbers = numbers 0 ∷ first_numbers n (λ j. numbers (suc j))

module _ (k : ℕ) (rows : List (List ℕ)) where
  -- a member that has 0 in each column before c, and there no multiple of 2 ^ (w + 1)
  abbrev pub breaks : ℕ → ℕ → List ℕ → Bool
  breaks c w x = is_member k rows x && (all_below c (λ j. slice_index x j % 2 ^ 32 == 0) && not (slice_index x c % 2 ^ (w + 1) == 0))

  -- the first of d numbers from w on that some member breaks, or the one behind them
  unfoldable pub exponent_from : ℕ → ℕ → ℕ → ℕ
  exponent_from c zero w = w
  exponent_from c (suc d) w = if some_vector (k + 1) (breaks c w) then w else exponent_from c d (w + 1)

  -- the greatest number up to 32 such that its power of 2 divides the entry in the column of each member that has 0 before it
  abbrev pub exponent : ℕ → ℕ
  exponent c = exponent_from c 32 0

-- the sum of the exponents of the columns 0 .. k
abbrev pub rank_of : ℕ → List (List ℕ) → ℕ
rank_of k rows = sum (first_numbers (k + 1) (exponent k rows))

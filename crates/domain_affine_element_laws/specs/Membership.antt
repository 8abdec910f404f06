-- Whether a vector is a member of what rows generate, as a test: some multiple of each row, added, brings it to 0.
use Rattle.std.specs.Prelude.{ℕ, zero, suc, ◌+◌, ◌*◌, ◌%◌, ◌^◌, Bool, true, false, ◌&&◌, ◌||◌, ◌==◌, List, [], ◌∷◌, slice_index}
use Rattle.std.specs.List.{list_all}

-- some number below n passes the test
unfoldable pub some_below : ℕ → (ℕ → Bool) → Bool
some_below zero test = false
some_below (suc n) test = test n || some_below n test

-- each number below n does
unfoldable pub all_below : ℕ → (ℕ → Bool) → Bool
all_below zero test = true
all_below (suc n) test = test n && all_below n test

module _ (k : ℕ) where
  -- 0 in the columns 0 .. k
  abbrev pub is_zero : (ℕ → ℕ) → Bool
  is_zero v = all_below (k + 1) (λ j. v j % 2 ^ 32 == 0)

  abbrev pub comes_to_zero : List (List ℕ) → (ℕ → ℕ) → Bool
  comes_to_zero [] v = is_zero v
  comes_to_zero (r ∷ rows) v = some_below (2 ^ 32) (λ c. comes_to_zero rows (λ j. v j + c * slice_index r j))

  abbrev pub is_member : List (List ℕ) → List ℕ → Bool
  is_member rows x = comes_to_zero rows (slice_index x)

  -- each row of the others is a member of what the rows generate
  abbrev pub are_members : List (List ℕ) → List (List ℕ) → Bool
  are_members rows others = list_all (is_member rows) others

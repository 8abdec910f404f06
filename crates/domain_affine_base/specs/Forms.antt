-- Affine forms as lists of numbers below 2 ^ 32: the constant, and the multiplier of each tracked cell. Where there are
-- fewer numbers, the others are 0.
use Rattle.std.specs.Prelude.{ℕ, ◌+◌, ◌-◌, ◌*◌, ◌%◌, ◌^◌, Bool, true, List, [], ◌∷◌, map, ◌==◌}
use Rattle.std.specs.List.{list_all}

-- the sum, number by number
abbrev pub sum_of : List ℕ → List ℕ → List ℕ
sum_of [] g = g
sum_of (a ∷ f) [] = a ∷ f
sum_of (a ∷ f) (b ∷ g) = ((a + b) % 2 ^ 32) ∷ sum_of f g

-- each number times c
abbrev pub multiple_of : ℕ → List ℕ → List ℕ
multiple_of c f = map (λ a. c * a % 2 ^ 32) f

-- 0 less the form: each number times -1
abbrev pub negation_of : List ℕ → List ℕ
negation_of f = multiple_of (2 ^ 32 - 1) f

abbrev pub difference_of : List ℕ → List ℕ → List ℕ
difference_of f g = sum_of f (negation_of g)

-- -1 less the form: the bits of a number, turned
abbrev pub complement_of : List ℕ → List ℕ
complement_of f = difference_of ((2 ^ 32 - 1) ∷ []) f

-- all multipliers of cells are 0
abbrev pub is_constant : List ℕ → Bool
is_constant [] = true
is_constant (a ∷ f) = list_all (λ b. b == 0) f

-- the constant of the form
abbrev pub constant_of : List ℕ → ℕ
constant_of [] = 0
constant_of (a ∷ f) = a

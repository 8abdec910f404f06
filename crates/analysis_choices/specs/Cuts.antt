-- At which numbers a comparison with a word cuts a cell.
use Rattle.std.specs.Prelude.{ℕ, ◌+◌, ◌-◌, ◌%◌, ◌^◌, ◌==◌, if◌then◌else◌, List, [], ◌∷◌, map}
use Rattle.word_operations.specs.declared.kinds.WordComparison.{WordComparison}
use Rattle.word_operations.specs.declared.kinds.WordComparison.TheVariants.{Eq, Ne, LtU, LeU, LtS, LeS}

-- the numbers at which the truth value may change, of a cell on the left and a word with these ends
abbrev pub left_cuts : WordComparison → ℕ × ℕ → List ℕ
left_cuts Eq e = e.0 ∷ (e.1 + 1) ∷ []
left_cuts Ne e = e.0 ∷ (e.1 + 1) ∷ []
left_cuts LtU e = e.0 ∷ e.1 ∷ []
left_cuts LeU e = (e.0 + 1) ∷ (e.1 + 1) ∷ []
left_cuts LtS e = e.0 ∷ e.1 ∷ []
left_cuts LeS e = (e.0 + 1) ∷ (e.1 + 1) ∷ []

-- the same of a cell on the right
abbrev pub right_cuts : WordComparison → ℕ × ℕ → List ℕ
right_cuts LtU e = left_cuts LeU e
right_cuts LeU e = left_cuts LtU e
right_cuts LtS e = left_cuts LeS e
right_cuts LeS e = left_cuts LtS e
right_cuts k e = left_cuts k e

-- where the order goes round: signed, or of a cell plus a number
abbrev pub round_cuts : WordComparison → ℕ → List ℕ
round_cuts LtS plus = 2 ^ 31 ∷ []
round_cuts LeS plus = 2 ^ 31 ∷ []
round_cuts k plus = if plus == 0 then [] else 0 ∷ []

-- of the cell itself
abbrev pub back : ℕ → List ℕ → List ℕ
back plus cuts = map (λ n. (n + (2 ^ 32 - plus)) % 2 ^ 32) cuts

-- What a comparison of two words x and y of w bits gives.
use Rattle.std.specs.Prelude.{ℕ, Bool, not, ◌==◌, nat_lt, nat_le, int_lt, int_le}
use Rattle.word_operations.specs.Signed.{signed}
use Rattle.word_operations.specs.declared.kinds.WordComparison.{WordComparison}
use Rattle.word_operations.specs.declared.kinds.WordComparison.TheVariants.{Eq, Ne, LtU, LeU, LtS, LeS}

-- of the numbers, or of the signed readings
abbrev pub cmp_of : WordComparison → ℕ → ℕ → ℕ → Bool
cmp_of Eq w x y = x == y
cmp_of Ne w x y = not (x == y)
cmp_of LtU w x y = nat_lt x y
cmp_of LeU w x y = nat_le x y
cmp_of LtS w x y = int_lt (signed w x) (signed w y)
cmp_of LeS w x y = int_le (signed w x) (signed w y)

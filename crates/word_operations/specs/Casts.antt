-- The word x of one width at another.
use Rattle.std.specs.Prelude.{ℕ, ◌%◌, ◌^◌}
use Rattle.word_operations.specs.Signed.{signed, unsigned}

-- zero extension: the same number
abbrev pub zext_of : ℕ → ℕ → ℕ → ℕ
zext_of from to x = x

-- sign extension: the word of the same signed reading
abbrev pub sext_of : ℕ → ℕ → ℕ → ℕ
sext_of from to x = unsigned to (signed from x)

-- truncation: the lowest bits
abbrev pub trunc_of : ℕ → ℕ → ℕ → ℕ
trunc_of from to x = x % 2 ^ to

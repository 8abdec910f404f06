-- Numbers in hex digits.
use Rattle.std.specs.Prelude.{ℕ, zero, suc, ◌+◌, ◌*◌, ◌/◌, ◌%◌, ◌^◌, false, List, [], ◌∷◌}
use Rattle.std.specs.Fmt.{digit_glyph}

-- the last so many hex digits of a number, in lower case, the most significant first
abbrev pub hex_digits : ℕ → ℕ → List ℕ
hex_digits zero value = []
hex_digits (suc n) value = digit_glyph false (value / 2 ^ (4 * n) % 16) ∷ hex_digits n value

-- how many hex digits a word of so many bits has: one for four bits, rounded up
abbrev pub digits_of : ℕ → ℕ
digits_of width = (width + 3) / 4

-- Numbers in digits.
use Rattle.std.specs.Prelude.{ℕ, ◌+◌, ◌*◌, ◌==◌, ◌&&◌, not, nat_le, nat_lt, Bool, false, List, [], ◌∷◌, Option, Some, None, length, if◌then◌else◌}
use Rattle.std.specs.Char.{digit_value}
pub use Rattle.spec_ir.specs.Hex.{digits_of, hex_digits}

-- the number that hex digits write behind the number `high`, in either case, if all are digits
abbrev pub hex_from : ℕ → List ℕ → Option ℕ
hex_from high [] = Some high
hex_from high (b ∷ bytes) = if nat_lt (digit_value b) 16 then hex_from (high * 16 + digit_value b) bytes else None

-- the number that 1 to `most` hex digits write
abbrev pub hex_number : ℕ → List ℕ → Option ℕ
hex_number most digits = if nat_lt 0 (length digits) && nat_le (length digits) most then hex_from 0 digits else None

-- the number that decimal digits write behind the number `high`, if all are digits
abbrev pub decimal_from : ℕ → List ℕ → Option ℕ
decimal_from high [] = Some high
decimal_from high (b ∷ bytes) = if nat_lt (digit_value b) 10 then decimal_from (high * 10 + digit_value b) bytes else None

-- `0` alone, or a digit that isn't `0` first; at most 16 digits
abbrev pub is_plain : List ℕ → Bool
is_plain [] = false
is_plain (b ∷ bytes) = nat_lt (length bytes) 16 && not (b == 48 && nat_lt 0 (length bytes))

-- the number that decimal digits without leading zeros write
abbrev pub decimal_number : List ℕ → Option ℕ
decimal_number digits = if is_plain digits then decimal_from 0 digits else None

-- Numbers as the command line writes them.
use Rattle.std.specs.Prelude.{ℕ, ◌^◌, Bool, ◌&&◌, List, Option, Some, None, if◌then◌else◌, length, nat_le, nat_lt}
use Rattle.std.specs.Char.{is_ascii_digit, is_ascii_hexdigit, is_digit}
use Rattle.std.specs.List.{list_all}
use Rattle.std.specs.Str.Parse.{digits_value}

-- 1 to `most` digits, each of which passes the test
abbrev pub has_digits : (ℕ → Bool) → ℕ → List ℕ → Bool
has_digits is_digit most text = nat_lt 0 (length text) && nat_le (length text) most && list_all is_digit text

-- 1 to `most` hex digits of either case, with a value below 2 ^ bits
abbrev pub hex_in : ℕ → ℕ → List ℕ → Option ℕ
hex_in most bits text = if has_digits is_ascii_hexdigit most text && nat_lt (digits_value 16 text) (2 ^ bits) then Some (digits_value 16 text) else None

-- an address: 1 to 8 hex digits
abbrev pub address_in : List ℕ → Option ℕ
address_in text = hex_in 8 32 text

-- 1 to `most` decimal digits, with a value from `least` to `greatest`
abbrev pub decimal_in : ℕ → ℕ → ℕ → List ℕ → Option ℕ
decimal_in most least greatest text =
    if has_digits is_ascii_digit most text && nat_le least (digits_value 10 text) && nat_le (digits_value 10 text) greatest
    then Some (digits_value 10 text) else None

-- 1 to `most` digits of a radix, with a value below 2 ^ 32
abbrev pub number_in : ℕ → ℕ → List ℕ → Option ℕ
number_in radix most text = if has_digits (λ c. is_digit c radix) most text && nat_lt (digits_value radix text) (2 ^ 32) then Some (digits_value radix text) else None

-- What words and notes are, by their texts. Each has one text, so digits are in lower case.
use Rattle.std.specs.Prelude.{ℕ, ◌+◌, ◌*◌, ◌-◌, ◌^◌, ◌==◌, ◌&&◌, ◌||◌, Bool, not, nat_le, nat_lt, List, [], ◌∷◌, length, take, drop, Option, Some, None, option_map, bit_and, bytes_eq, codes, if◌then◌else◌}
use Rattle.std.specs.List.{list_all}
use Rattle.std.specs.Option.{option_and_then, option_zip}
use Rattle.base_trait.specs.declared.uses.Stamp.{Stamp}
use Rattle.base_trait.specs.declared.uses.Stamp.TheVariants.{Entry, At}
use Rattle.base_trait.specs.Stamps.{is_before}
use Rattle.state_cell_text.specs.Digits.{digits_of, hex_number}
use Rattle.state_cell_text.specs.Keys.{below}
use Rattle.base_kset.specs.Sets.{bounded}
use Rattle.base_interval.specs.declared.range.Range.{Range}
use Rattle.base_bits.specs.declared.known.Known.{Known}
use Rattle.base_strides.specs.Meaning.{is_long}
use Rattle.base_strides.specs.Stretch.{one}
use Rattle.base_strides.specs.Views.{word_of}
use Rattle.base_strides.specs.Words.{Strided}
use Rattle.base_strides.specs.Words as strided
use Rattle.base_strides.specs.declared.stretch.Stretch.{Stretch}
use Rattle.text_words.specs.Pieces.{items_in, pieces}

-- ---- texts

-- what stands behind a front, where the text begins with that
abbrev pub behind : List ℕ → List ℕ → Option (List ℕ)
behind front text = if bytes_eq (take (length front) text) front then Some (drop (length front) text) else None

-- what stands in front of an end, where the text ends with that
abbrev pub before : List ℕ → List ℕ → Option (List ℕ)
before end text = if bytes_eq (drop (length text - length end) text) end then Some (take (length text - length end) text) else None

-- ---- numbers

-- a digit, or a letter from `a` to `f`
abbrev pub is_digit : ℕ → Bool
is_digit b = (nat_le 48 b && nat_le b 57) || (nat_le 97 b && nat_le b 102)

-- a number of w bits: a hex digit for each 4, rounded up. Widths are 1 to 64 bits: of others there is none.
abbrev pub number_in : ℕ → List ℕ → Option ℕ
number_in w text = if length text == digits_of w && list_all is_digit text then below w (hex_number 16 text) else None

-- two numbers of w bits, with a text between
abbrev pub two_in : List ℕ → ℕ → List ℕ → Option (ℕ × ℕ)
two_in between w text = option_zip (number_in w (take (digits_of w) text)) (option_and_then (number_in w) (behind between (drop (digits_of w) text)))

-- ---- words

-- `any`, of a width
abbrev pub is_any : ℕ → List ℕ → Bool
is_any w text = nat_le 1 w && (nat_le w 64 && bytes_eq text (codes "any"))

-- numbers of w bits, ascending
abbrev pub numbers_in : ℕ → List ℕ → Option (List ℕ)
numbers_in w text = items_in nat_lt (number_in w) None (pieces 44 text)

-- the text in braces
abbrev pub braced : List ℕ → Option (List ℕ)
braced text = option_and_then (before (codes "}")) (behind (codes "{") text)

-- a set of 1 to K numbers, or any
abbrev pub set_in : ℕ → ℕ → List ℕ → Option (Option (List ℕ))
set_in K w text = if is_any w text then Some None else option_map Some (option_and_then (bounded K) (option_and_then (numbers_in w) (braced text)))

-- the interval of these ends, where they are in order and not those of the width
abbrev pub ends : ℕ → ℕ × ℕ → Option Range
ends w x = if nat_le x.0 x.1 && not (x.0 == 0 && x.1 == 2 ^ w - 1) then Some (record { lo = x.0; hi = x.1 }) else None

abbrev pub range_in : ℕ → List ℕ → Option Range
range_in w text = if is_any w text then Some (record { lo = 0; hi = 2 ^ w - 1 }) else option_and_then (ends w) (two_in (codes "..") w text)

-- the word of these known and unknown bits, where they are apart and some bit is known
abbrev pub known : ℕ → ℕ × ℕ → Option Known
known w x = if bit_and x.0 x.1 == 0 && not (x.1 == 2 ^ w - 1) then Some (record { v = x.0; m = x.1 }) else None

abbrev pub known_in : ℕ → List ℕ → Option Known
known_in w text = if is_any w text then Some (record { v = 0; m = 2 ^ w - 1 }) else option_and_then (known w) (two_in (codes "/") w text)

-- ---- strided words

-- a width of 1 to 64 bits
abbrev pub is_width : ℕ → Bool
is_width w = nat_le 1 w && nat_le w 64

-- the ends and the step of a strided interval, with `..` and `+` between
abbrev pub stepped_in : ℕ → List ℕ → Option ((ℕ × ℕ) × ℕ)
stepped_in w text =
    option_zip (two_in (codes "..") w (take (2 * digits_of w + 2) text)) (option_and_then (number_in w) (behind (codes "+") (drop (2 * digits_of w + 2) text)))

-- the numbers of an interval, one after another
abbrev pub by_ones : Range → Stretch
by_ones x = record { lo = x.lo; step = 1; hi = x.hi }

-- the numbers between these ends that the step leads to; a step of 1 is not written
abbrev pub by_steps : (ℕ × ℕ) × ℕ → Option Stretch
by_steps x = if x.1 == 1 then None else Some (record { lo = x.0.0; step = x.1; hi = x.0.1 })

-- an interval, or what has a step
abbrev pub either_form : Option Range → Option ((ℕ × ℕ) × ℕ) → Option Stretch
either_form (Some x) stepped = Some (by_ones x)
either_form None stepped = option_and_then by_steps stepped

abbrev pub stretch_in : ℕ → List ℕ → Option Stretch
stretch_in w text = either_form (range_in w text) (stepped_in w text)

-- the word of a strided interval, where it has more numbers than a set, and its high end is one of them
abbrev pub long : ℕ → Stretch → Option strided.Word
long w x = if is_long w x then Some (Strided x) else None

-- the word of a set
abbrev pub set_word : Option (List ℕ) → strided.Word
set_word set = word_of set (one 0)

-- the word of at most 16 numbers, ascending
abbrev pub listed_word : ℕ → List ℕ → Option strided.Word
listed_word w text = option_map set_word (option_map Some (option_and_then (bounded 16) (numbers_in w text)))

-- what stands in braces is a set, and another text a strided interval
abbrev pub strided_form : ℕ → List ℕ → Option (List ℕ) → Option strided.Word
strided_form w text (Some numbers) = listed_word w numbers
strided_form w text None = option_and_then (long w) (stretch_in w text)

-- a set of 1 to 16 numbers, or a strided interval of more
abbrev pub strided_in : ℕ → List ℕ → Option strided.Word
strided_in w text = if is_width w then strided_form w text (braced text) else None

-- ---- notes

-- a note that tells nothing
abbrev pub nothing_in : List ℕ → Option (Unit {0})
nothing_in [] = Some tt
nothing_in (b ∷ text) = None

module _ (code : ℕ → Bool) where
  -- the stamp of an address, where that is one of a code word
  abbrev pub stamp_at : ℕ → Option Stamp
  stamp_at a = if code a then Some (At a) else None

  -- a stamp: the entry, or an address of a code word
  abbrev pub stamp_in : List ℕ → Option Stamp
  stamp_in text = if bytes_eq text (codes "entry") then Some Entry else option_and_then stamp_at (number_in 32 text)

  -- ` from STAMPS`: one or more, the entry first, then addresses, ascending
  abbrev pub stamps_in : List ℕ → Option (List Stamp)
  stamps_in text = option_and_then (λ stamps. items_in is_before stamp_in None (pieces 44 stamps)) (behind (codes " from ") text)

-- ---- addresses

-- one or more addresses, ascending, with a space between
abbrev pub addresses_in : List ℕ → Option (List ℕ)
addresses_in text = items_in nat_lt (number_in 32) None (pieces 32 text)

-- Places in a text.
use Rattle.std.specs.Prelude.{ℕ, ◌+◌, ◌-◌, ◌==◌, List, [], fold, if◌then◌else◌, slice_get, take, unwrap_or}
use Rattle.std.specs.List.{slice_split}
use Rattle.program_advice.specs.declared.places.Place.{Place}

-- the place behind a byte: a line feed ends its line
abbrev pub behind : Place → ℕ → Place
behind place byte = if byte == 10 then record { line = place.line + 1; column = 1 } else record { line = place.line; column = place.column + 1 }

-- the first place of a text
abbrev pub first_place : Place
first_place = record { line = 1; column = 1 }

-- the place behind the bytes before an offset
abbrev pub place_of : ℕ → List ℕ → Place
place_of at text = fold behind first_place (take at text)

-- the lines of a text: the pieces between its line feeds
abbrev pub lines : List ℕ → List (List ℕ)
lines text = slice_split (λ byte. byte == 10) text

-- the line of a number, counted from 1, or nothing
abbrev pub line_of : ℕ → List ℕ → List ℕ
line_of number text = unwrap_or (slice_get (lines text) (number - 1)) []

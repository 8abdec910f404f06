-- The lines of a text.
use Rattle.std.specs.Prelude.{ℕ, ◌==◌, not, Bool, true, false, List, [], ◌∷◌, ◌++◌, Option, Some, None, if◌then◌else◌}

-- Each line ends with LF, which is not part of it. None is an end of the text without LF.
abbrev pub Lines : Type 0
Lines = List (Option (List ℕ))

-- whether a byte is inside a line
abbrev pub is_inside : ℕ → Bool
is_inside b = not (b == 10)

-- a byte in front of the first line
abbrev pub onto : ℕ → Lines → Lines
onto b [] = None ∷ []
onto b (None ∷ ls) = None ∷ ls
onto b (Some line ∷ ls) = Some (b ∷ line) ∷ ls

abbrev pub lines : List ℕ → Lines
lines [] = []
lines (b ∷ bytes) = if b == 10 then Some [] ∷ lines bytes else onto b (lines bytes)

-- the first line, where it ends with LF, and those behind it
abbrev pub first_line : Lines → Option (List ℕ × Lines)
first_line [] = None
first_line (None ∷ ls) = None
first_line (Some line ∷ ls) = Some (line, ls)

-- whether each line ends with LF
abbrev pub all_end : Lines → Bool
all_end [] = true
all_end (None ∷ ls) = false
all_end (Some line ∷ ls) = all_end ls

-- lines, with LF behind each
abbrev pub text_of : Lines → List ℕ
text_of [] = []
text_of (None ∷ ls) = []
text_of (Some line ∷ ls) = line ++ 10 ∷ text_of ls

-- What is so of lines.
use Rattle.std.specs.Prelude.{◌≡◌, ℕ, Bool, true, List, [], ◌∷◌, ◌++◌, Some}
use Rattle.std.specs.List.{list_all}
use Rattle.text_lines.specs.Lines.{Lines, all_end, is_inside, lines, text_of}

-- A text of which each line ends with LF is that of its lines.
abbrev pub LinesAreTheText : Type 0
LinesAreTheText = (bytes : List ℕ) → all_end (lines bytes) ≡ true → text_of (lines bytes) ≡ bytes

-- A text behind one of which each line ends with LF adds its lines.
abbrev pub LinesOfBoth : Type 0
LinesOfBoth = (bytes more : List ℕ) → all_end (lines bytes) ≡ true → lines (bytes ++ more) ≡ lines bytes ++ lines more

-- Bytes without LF, and LF behind them, are one line.
abbrev pub LineOfText : Type 0
LineOfText = (line more : List ℕ) → list_all is_inside line ≡ true → lines (line ++ 10 ∷ more) ≡ Some line ∷ lines more

-- No line has LF in it.
abbrev pub LinesHaveNoEnd : Type 0
LinesHaveNoEnd = (bytes line : List ℕ) (ls : Lines) → lines bytes ≡ Some line ∷ ls → list_all is_inside line ≡ true

-- The lines that say which fault a source has first.
use Rattle.std.specs.Prelude.{ℕ, List, [], ◌∷◌, ◌++◌, codes}
use Rattle.std.specs.Fmt.{decimal}
use Rattle.syntax_lexer.specs.declared.lex_error.LexError.{LexError}
use Rattle.syntax_lexer.specs.declared.lex_error.LexError.TheVariants.{BadByte, LongName, BadNumber, NoMemory}

-- the line of a fault at a place, with a line end
abbrev pub line_at : ℕ → List ℕ → List ℕ
line_at at fault = codes "spec " ++ decimal at ++ (codes " " ++ fault ++ 10 ∷ [])

-- want of memory is no fault of the source, and has no line
abbrev pub fault_line : LexError → List ℕ
fault_line (BadByte at) = line_at at (codes "L1")
fault_line (LongName at) = line_at at (codes "L2")
fault_line (BadNumber at) = line_at at (codes "L3")
fault_line NoMemory = []

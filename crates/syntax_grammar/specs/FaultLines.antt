-- The lines that say which fault tokens have first.
use Rattle.std.specs.Prelude.{ℕ, List, [], codes}
use Rattle.syntax_lexer.specs.FaultLines.{line_at}
use Rattle.syntax_grammar.specs.declared.ParseError.{ParseError}
use Rattle.syntax_grammar.specs.declared.ParseError.TheVariants.{Syntax, TooDeep, NoMemory}

-- want of memory is no fault of the source, and has no line
abbrev pub fault_line : ParseError → List ℕ
fault_line (Syntax at) = line_at at (codes "P1")
fault_line (TooDeep at) = line_at at (codes "P2")
fault_line NoMemory = []

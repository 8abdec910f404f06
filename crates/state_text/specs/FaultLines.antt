-- The lines that say why an entry is refused.
use Rattle.std.specs.Prelude.{ℕ, List, [], ◌++◌, codes}
use Rattle.std.specs.Fmt.{decimal}
use Rattle.state_text.specs.declared.entry_error.EntryError.{EntryError}
use Rattle.state_text.specs.declared.entry_error.EntryError.TheVariants.{BadLine, UnknownCell, TooBig, Twice, NoPc, NotOne, NoMemory}

-- the number of a line, or 0, and a fault, with a line end
abbrev pub line_at : ℕ → List ℕ → List ℕ
line_at n fault = codes "entry " ++ (decimal n ++ (codes " " ++ (fault ++ codes "\n")))

-- want of memory is no fault of the entry, and has no line
abbrev pub fault_line : EntryError → List ℕ
fault_line (BadLine n) = line_at n (codes "E1")
fault_line (UnknownCell n) = line_at n (codes "E2")
fault_line (TooBig n) = line_at n (codes "E3")
fault_line (Twice n) = line_at n (codes "E4")
fault_line NoPc = codes "entry 0 E5\n"
fault_line (NotOne cell) = codes "entry 0 E6 " ++ (cell ++ codes "\n")
fault_line NoMemory = []

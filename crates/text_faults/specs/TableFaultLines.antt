-- The lines that say why the text of a table is refused.
use Rattle.std.specs.Prelude.{ℕ, List, [], ◌++◌, codes}
use Rattle.std.specs.Fmt.{decimal}
use Rattle.text_faults.specs.declared.table_error.TableError.{TableError}
use Rattle.text_faults.specs.declared.table_error.TableError.TheVariants.{Form, Base, Code, NoMemory}

-- the number of a line and a fault, with a line end
abbrev pub line_at : ℕ → List ℕ → List ℕ
line_at n fault = codes "table " ++ (decimal n ++ (codes " " ++ (fault ++ codes "\n")))

-- want of memory is no fault of the table, and has no line
abbrev pub fault_line : TableError → List ℕ
fault_line (Form line) = line_at line (codes "X1")
fault_line Base = codes "table 2 X2\n"
fault_line (Code line) = line_at line (codes "X3")
fault_line NoMemory = []

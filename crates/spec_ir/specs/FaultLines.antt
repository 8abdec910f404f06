-- The lines that say why a specification is refused.
use Rattle.std.specs.Prelude.{ℕ, List, [], ◌++◌, codes}
use Rattle.std.specs.Fmt.{decimal}
use Rattle.spec_ir.specs.declared.spec_error.SpecError.{SpecError}
use Rattle.spec_ir.specs.declared.spec_error.SpecError.TheVariants.{Unknown, Twice, Mismatch, Arity, BadWidth, RecursiveType, BadRecursion, NotExhaustive, Useless, BadState, BadInterp, BadPattern, Overlap, TooMany, NoMemory}

-- `spec`, a place, the number of a fault, and what it says further, with a line end
abbrev pub line_at : ℕ → List ℕ → List ℕ → List ℕ
line_at at fault more = codes "spec " ++ (decimal at ++ (codes " " ++ (fault ++ (more ++ codes "\n"))))

-- two things that a fault says further, and what stands between them
abbrev pub pair_at : ℕ → List ℕ → List ℕ → List ℕ → List ℕ → List ℕ
pair_at at fault first between second = codes "spec " ++ (decimal at ++ (codes " " ++ (fault ++ (first ++ (between ++ (second ++ codes "\n"))))))

-- The place is where the span of a fault begins. Want of memory is no fault of the source, and has no
-- line.
abbrev pub fault_line : SpecError → List ℕ
fault_line (Unknown span name) = line_at span.from (codes "T1 ") name
fault_line (Twice span name) = line_at span.from (codes "T2 ") name
fault_line (Mismatch span want got) = pair_at span.from (codes "T3 want ") want (codes " got ") got
fault_line (Arity span want got) = pair_at span.from (codes "T4 want ") (decimal want) (codes " got ") (decimal got)
fault_line (BadWidth span shown) = line_at span.from (codes "T5 ") shown
fault_line (RecursiveType span name) = line_at span.from (codes "T6 ") name
fault_line (BadRecursion span function) = line_at span.from (codes "T7 ") function
fault_line (NotExhaustive span example) = line_at span.from (codes "T8 ") example
fault_line (Useless span row) = line_at span.from (codes "T9 ") (decimal row)
fault_line (BadState span) = line_at span.from (codes "T10") []
fault_line (BadInterp span) = line_at span.from (codes "T11") []
fault_line (BadPattern span) = line_at span.from (codes "T12") []
fault_line (Overlap span first second) = pair_at span.from (codes "T13 ") first (codes " ") second
fault_line (TooMany span what) = line_at span.from (codes "T14 ") what
fault_line NoMemory = []

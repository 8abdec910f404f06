-- The lines that say why claims are refused.
use Rattle.std.specs.Prelude.{ℕ, List, [], ◌++◌, codes}
use Rattle.std.specs.Fmt.{decimal}
use Rattle.text_faults.specs.declared.claim_error.ClaimError.{ClaimError}
use Rattle.text_faults.specs.declared.claim_error.ClaimError.TheVariants.{BadLine, UnknownPlace, NoPart, NoMemory}

-- the number of a line and a fault, with a line end
abbrev pub line_at : ℕ → List ℕ → List ℕ
line_at n fault = codes "claims " ++ (decimal n ++ (codes " " ++ (fault ++ codes "\n")))

-- want of memory is no fault of the claims, and has no line
abbrev pub fault_line : ClaimError → List ℕ
fault_line (BadLine n) = line_at n (codes "K1")
fault_line (UnknownPlace n) = line_at n (codes "K2")
fault_line (NoPart n) = line_at n (codes "K3")
fault_line NoMemory = []

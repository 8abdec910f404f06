-- The cells that an instruction cuts, and the numbers at which it does.
use Rattle.std.specs.Prelude.{ℕ, ◌==◌, nat_lt, if◌then◌else◌, List, [], ◌∷◌, ◌++◌, Option, Some, None, map, slice_get}
use Rattle.spec_ir.specs.declared.spec.Machine.{Machine}
use Rattle.spec_ir.specs.Specification.{Fun, Spec}
use Rattle.semantics_values.specs.declared.entry.KeyAt.{KeyAt}
use Rattle.semantics_values.specs.Values.{Val}
use Rattle.analysis_choices.specs.Cuts.{back, left_cuts, right_cuts, round_cuts}
use Rattle.analysis_choices.specs.declared.comparison.CellComparison.{CellComparison}
use Rattle.analysis_choices.specs.declared.symbol.Symbol.TheVariants.{Instruction, State}
use Rattle.analysis_choices.specs.Comparisons.{compared}

-- ascending, without doubles
abbrev pub with_cut : ℕ → List ℕ → List ℕ
with_cut n [] = n ∷ []
with_cut n (m ∷ cuts) = if n == m then m ∷ cuts else if nat_lt n m then n ∷ m ∷ cuts else m ∷ with_cut n cuts

-- 0 cuts off no number
abbrev pub with_nonzero : ℕ → List ℕ → List ℕ
with_nonzero n cuts = if nat_lt 0 n then with_cut n cuts else cuts

abbrev pub with_all : List ℕ → List ℕ → List ℕ
with_all [] cuts = cuts
with_all (n ∷ ns) cuts = with_all ns (with_nonzero n cuts)

abbrev pub ascending : List ℕ → List ℕ
ascending ns = with_all ns []

-- the numbers at which a comparison with this one may change its truth value: two of an equality, and one, written twice, of an order
abbrev pub ends_of : CellComparison → List ℕ
ends_of c = if c.on_left then left_cuts c.op (c.number, c.number) else right_cuts c.op (c.number, c.number)

-- those and where the order goes round, of the cell itself
abbrev pub cuts_of : CellComparison → List ℕ
cuts_of c = ascending (back c.cell.plus (ends_of c ++ round_cuts c.op c.cell.plus))

abbrev pub cell_cuts : CellComparison → (ℕ × KeyAt) × List ℕ
cell_cuts c = ((c.cell.place, c.cell.key), cuts_of c)

abbrev pub compared_in : Val → Option Fun → List CellComparison
compared_in instruction None = []
compared_in instruction (Some interp) = compared instruction (Instruction ∷ State ∷ []) interp.core

-- of the decoded instruction, by the function of instructions: one cell with its cuts for each comparison
abbrev pub choices_of : Spec → Machine → Val → List ((ℕ × KeyAt) × List ℕ)
choices_of spec m instruction = map cell_cuts (compared_in instruction (slice_get spec.funs m.interp))

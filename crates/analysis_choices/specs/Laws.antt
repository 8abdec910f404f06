-- The numbers at which cells are cut are the right ones.
use Rattle.std.specs.Prelude.{◌≡◌, ℕ, ◌+◌, ◌%◌, ◌^◌, ◌<◌, ◌≤◌, Bool, if◌then◌else◌, List, [], ◌∷◌}
use Rattle.word_operations.specs.Cmp.{cmp_of}
use Rattle.analysis_choices.specs.declared.comparison.CellComparison.{CellComparison}
use Rattle.analysis_choices.specs.Choice.{cuts_of}

-- the truth value of a comparison of 32 bits, where its cell has this number
abbrev pub truth_at : CellComparison → ℕ → Bool
truth_at c n = if c.on_left then cmp_of c.op 32 ((n + c.cell.plus) % 2 ^ 32) c.number else cmp_of c.op 32 c.number ((n + c.cell.plus) % 2 ^ 32)

-- no cut lies between two numbers, of which the first is not above the second
abbrev pub AreUncut : List ℕ → ℕ → ℕ → Type 0
AreUncut [] m n = Unit {0}
AreUncut (cut ∷ cuts) m n = (m < cut → n < cut) × AreUncut cuts m n

-- Numbers of 32 bits between which no cut lies make a comparison alike.
abbrev pub CutsDecide : Type 0
CutsDecide = (c : CellComparison) (m n : ℕ) → c.number < 2 ^ 32 → c.cell.plus < 2 ^ 32 → m ≤ n → n < 2 ^ 32 → AreUncut (cuts_of c) m n → truth_at c m ≡ truth_at c n

-- A cell and its cuts as plain data.
use Rattle.std.specs.Prelude.{ℕ, List}
use Rattle.semantics_values.specs.declared.entry.KeyAt.{KeyAt}
use Rattle.analysis_choices.specs.declared.choice.CellCuts.{CellCuts}

abbrev pub choice : CellCuts → (ℕ × KeyAt) × List ℕ
choice c = ((c.place, c.key), c.cuts.items)

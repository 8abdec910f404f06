use Rattle.std.proofs.Common.{◌≡◌, ◌-◌, drop, length}
use Rattle.semantics.specs.Entries.{named_cells}
use Rattle.state_text.proofs.single_state.named_cells.Given as goal

abbrev pub invariant-loop-i : goal.invariant-loop-i
invariant-loop-i l = l.cells.entries ≡ named_cells (drop (length l.lines - l.i) l.lines) l.field

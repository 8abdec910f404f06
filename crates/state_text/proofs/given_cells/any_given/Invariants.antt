use Rattle.std.proofs.Common.{◌≡◌, ◌+◌, drop}
use Rattle.state_text.specs.Meaning.{run_cells}
use Rattle.state_text.specs.Reading.{any_given}
use Rattle.state_text.proofs.given_cells.any_given.Given as goal

abbrev pub invariant-loop-i : goal.invariant-loop-i
invariant-loop-i l = any_given l.found.lines.items l.field (run_cells l.first l.bytes) ≡ any_given l.found.lines.items l.field (run_cells (l.first + l.i) (drop l.i l.bytes))

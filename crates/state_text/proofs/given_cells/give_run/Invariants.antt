use Rattle.std.proofs.Common.{◌≡◌, ◌+◌, ◌++◌, drop, map}
use Rattle.state_text.specs.Found.{IsKept}
use Rattle.state_text.specs.Meaning.{run_cells}
use Rattle.state_text.specs.Reading.{line_of}
use Rattle.state_text.proofs.given_cells.give_run.Given as goal

abbrev pub invariant-loop-i : goal.invariant-loop-i
invariant-loop-i l = record {
  lines : l.fn.found.lines.items ++ map (line_of l.n l.field) (run_cells l.first l.bytes) ≡ l.found.lines.items ++ map (line_of l.n l.field) (run_cells (l.first + l.i) (drop l.i l.bytes));
  counter : l.found.counter ≡ l.fn.found.counter;
  kept : IsKept l.found;
}

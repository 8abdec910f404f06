use Rattle.std.proofs.Common.{◌≡◌, ◌+◌, ◌≤◌, length}
use Rattle.spec_ir.specs.Views.{specification}
use Rattle.state_text.specs.Found.{IsKept, found_of}
use Rattle.state_text.specs.Lines.{lines}
use Rattle.state_text.specs.Reading.{read, read_from}
use Rattle.state_text.proofs.reader.read_entry.Given as goal

abbrev pub invariant-loop-rest : goal.invariant-loop-rest
invariant-loop-rest l = record {
  value : read (specification l.spec) l.bytes ≡ read_from (specification l.spec) l.n (found_of l.found) (lines l.rest);
  count : l.n + length l.rest ≤ length l.bytes + 1;
  kept : IsKept l.found;
}

abbrev pub decreases-loop-rest : goal.decreases-loop-rest
decreases-loop-rest l = length l.rest

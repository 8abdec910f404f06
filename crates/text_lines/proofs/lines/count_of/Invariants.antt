use Rattle.std.proofs.Common.{◌≡◌, ◌+◌, length, true}
use Rattle.text_lines.specs.Lines.{lines}
use Rattle.text_lines.proofs.FirstLine.{is_well}
use Rattle.text_lines.proofs.lines.count_of.Given as goal

abbrev pub invariant-loop-count : goal.invariant-loop-count
invariant-loop-count l = record {
  count : length (lines l.bytes) ≡ l.count + length l.rest;
  well : is_well l.rest ≡ true;
}

use Rattle.std.proofs.Common.{◌≡◌, ◌<◌, ◌^◌, drop}
use Rattle.state_cell_text.specs.Digits.{hex_from}
use Rattle.state_cell_text.proofs.digits.hex_number.Given as goal

abbrev pub invariant-loop-i : goal.invariant-loop-i
invariant-loop-i l = record {
  value : hex_from 0 l.digits ≡ hex_from l.value (drop l.i l.digits);
  small : l.value < 16 ^ l.i;
}

use Rattle.std.proofs.Common.{◌≡◌, ◌<◌, ◌^◌, drop}
use Rattle.state_cell_text.specs.Digits.{decimal_from}
use Rattle.state_cell_text.proofs.digits.decimal_number.Given as goal

abbrev pub invariant-loop-i : goal.invariant-loop-i
invariant-loop-i l = record {
  value : decimal_from 0 l.digits ≡ decimal_from l.value (drop l.i l.digits);
  small : l.value < 16 ^ l.i;
}

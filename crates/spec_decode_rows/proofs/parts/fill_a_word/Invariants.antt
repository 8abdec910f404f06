use Rattle.std.proofs.Common.{◌≡◌, ◌≤◌, ◌+◌, drop}
use Rattle.spec_decode_rows.specs.Fits.{widths_sum}
use Rattle.spec_decode_rows.proofs.parts.fill_a_word.Given as goal

abbrev pub invariant-loop-p : goal.invariant-loop-p
invariant-loop-p l = record {
  sum : widths_sum l.parts ≡ l.sum + widths_sum (drop l.p-index l.parts);
  within : l.sum ≤ 32;
}

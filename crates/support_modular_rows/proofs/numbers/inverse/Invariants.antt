use Rattle.std.proofs.Common.{◌≡◌, ◌+◌, ◌*◌, ◌%◌, ◌^◌}
use Rattle.support_modular_rows.proofs.numbers.inverse.Given as goal

abbrev pub invariant-loop-i : goal.invariant-loop-i
invariant-loop-i l = record {
  product : l.fn.a * l.product % 2 ^ 32 ≡ l.power % 2 ^ 32;
  one : l.power % 2 ^ (l.i + 1) ≡ 1;
}

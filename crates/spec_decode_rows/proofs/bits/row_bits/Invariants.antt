use Rattle.std.proofs.Common.{◌≡◌, ◌++◌, drop}
use Rattle.spec_decode_rows.specs.Bits.{row_bits}
use Rattle.spec_decode_rows.proofs.bits.row_bits.Given as goal

abbrev pub invariant-loop-p : goal.invariant-loop-p
invariant-loop-p l = row_bits l.parts ≡ l.out.items ++ row_bits (drop l.p-index l.parts)

use Rattle.std.proofs.Common.{◌≡◌, drop}
use Rattle.spec_decode_rows.specs.Bits.{all_agree}
use Rattle.spec_decode_rows.proofs.bits.all_agree.Given as goal

abbrev pub invariant-loop-i : goal.invariant-loop-i
invariant-loop-i l = all_agree l.a l.b ≡ all_agree (drop l.i l.a) (drop l.i l.b)

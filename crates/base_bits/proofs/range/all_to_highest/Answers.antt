use Rattle.std.proofs.Common.{arith}
use Rattle.std.specs.Int.{w64, leading_zeros}
use Rattle.std.proofs.lemmas.Nat.{leading_le}
use Rattle.std.proofs.lemmas.Nat.Bits.{ones_shr}
use Rattle.base_bits.specs.Ranges.{mask_of}
use Rattle.base_bits.proofs.range.all_to_highest.Goals as goal

pub returns-then-n-eq0 : goal.returns-then-n-eq0
returns-then-n-eq0 c =
    let m = mask_of c.args.n c.ranges.n.fits in
    let is = m.1.is in
    let least = m.1.least in
    let none = c.if-n-eq0.true in
    omega (arith, is, least, none)

pub returns-else-n-eq0 : goal.returns-else-n-eq0
returns-else-n-eq0 c = ones_shr 64 (leading_zeros w64 c.args.n) (leading_le 64 c.args.n)

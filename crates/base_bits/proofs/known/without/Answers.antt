use Rattle.std.proofs.Common.{◌-◌, ◌^◌, arith}
use Rattle.std.proofs.lemmas.Nat.{and-not, and_comm}
use Rattle.base_bits.proofs.known.without.Goals as goal

pub returns : goal.returns
returns c =
    let small = c.ranges.n.fits in
    let mask = c.ranges.m.fits in
    let rest = and-not 64 c.args.m c.args.n mask small in
    omega (arith, rest, and_comm c.args.n c.args.m, and_comm c.args.n (2 ^ 64 - 1 - c.args.m))

use Rattle.std.proofs.Common.{◌-◌, ◌*◌, ◌%◌, ◌^◌, arith}
use Rattle.std.proofs.lemmas.Nat.{and_le_l, or_lt}
use Rattle.base_bits.specs.Describing.{without_le}
use Rattle.base_bits.proofs.compare.signed_ends.Goals as goal

pub returns-clause-words : goal.returns-clause-words
returns-clause-words c =
    let known = c.requires.word.known in
    let unknown = c.requires.word.unknown in
    let sign = 1 * 2 ^ (c.args.w - 1) % 2 ^ 64 in
    let rest = c.without.ensures in (
      or_lt c.args.w c.args.x.v _ known (omega (arith, unknown, and_le_l c.args.x.m sign)),
      or_lt c.args.w c.args.x.v c.without.result known (omega (arith, unknown, rest, without_le c.args.x.m sign)),
    )

use Rattle.std.proofs.lemmas.Nat.{ones-le}
use Rattle.base_bits.proofs.base.BitsBase.rank.Goals as goal

pub overflow_sub-result : goal.overflow_sub-result
overflow_sub-result c = ones-le c.args.w c.args.x.now.m c.requires.word.unknown

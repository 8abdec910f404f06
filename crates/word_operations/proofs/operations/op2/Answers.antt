use Rattle.std.proofs.lemmas.Nat.{or_lt, xor_lt}
use Rattle.word_operations.proofs.operations.op2.Goals as goal

pub returns-in-Or-clause-fits : goal.returns-in-Or-clause-fits
returns-in-Or-clause-fits c = or_lt c.args.w c.args.x c.args.y c.requires.left c.requires.right

pub returns-in-Xor-clause-fits : goal.returns-in-Xor-clause-fits
returns-in-Xor-clause-fits c = xor_lt c.args.w c.args.x c.args.y c.requires.left c.requires.right

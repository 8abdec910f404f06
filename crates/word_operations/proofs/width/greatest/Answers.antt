use Rattle.word_operations.proofs.Widths.{ones_of}
use Rattle.word_operations.proofs.width.greatest.Goals as goal

pub returns : goal.returns
returns c = ones_of c.args.w c.requires.1

use Rattle.word_operations.proofs.Widths.{and_greatest}
use Rattle.word_operations.proofs.width.lowest.Goals as goal

pub returns : goal.returns
returns c = and_greatest c.args.x c.greatest.result c.args.w c.greatest.ensures

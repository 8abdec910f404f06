use Rattle.word_operations.proofs.Fits.{zext_of_fits}
use Rattle.word_operations.proofs.casts.zext.Goals as goal

pub returns-clause-fits : goal.returns-clause-fits
returns-clause-fits c = zext_of_fits c.args.from c.args.to c.args.x c.requires.widens c.requires.word

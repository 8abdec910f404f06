use Rattle.std.proofs.Common.{[]}
use Rattle.base_strides.specs.Instance.{word_laws}
use Rattle.base_strides.proofs.Fitting.{fits_of}
use Rattle.base_strides.proofs.base.StridesBase.zext.Goals as goal

pub returns-clause-fits : goal.returns-clause-fits
returns-clause-fits c =
    fits_of c.args.to c.copy.result c.args.x.now c.copy.ensures.value
    (word_laws.zext_fits [] c.args.from c.args.to c.args.x.now c.requires.widths c.requires.word)

use Rattle.std.proofs.Common.{[]}
use Rattle.base_strides.specs.Instance.{word_laws}
use Rattle.base_strides.specs.Meaning.{join_of}
use Rattle.base_strides.proofs.Fitting.{fits_of}
use Rattle.base_strides.proofs.base.StridesBase.join.Goals as goal

pub returns-clause-fits : goal.returns-clause-fits
returns-clause-fits c =
    fits_of c.args.w c.join.result (join_of c.args.x.now c.args.y.now) c.join.ensures.value
    (word_laws.join_fits [] c.args.w c.args.x.now c.args.y.now c.requires.width c.requires.left c.requires.right)

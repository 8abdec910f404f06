use Rattle.std.proofs.Common.{[]}
use Rattle.word_operations.specs.Casts.{trunc_of}
use Rattle.base_strides.specs.Instance.{word_laws}
use Rattle.base_strides.specs.Meaning.{on_one}
use Rattle.base_strides.specs.Rows.{trunc_row}
use Rattle.base_strides.proofs.Fitting.{fits_of}
use Rattle.base_strides.proofs.base.StridesBase.trunc.Goals as goal

pub returns-clause-fits : goal.returns-clause-fits
returns-clause-fits c =
    fits_of c.args.to c.change_word.result (on_one (trunc_of c.args.from c.args.to) (trunc_row c.args.to) c.args.x.now) c.change_word.ensures.value
    (word_laws.trunc_fits [] c.args.from c.args.to c.args.x.now c.requires.widths c.requires.word)

use Rattle.std.proofs.Common.{[]}
use Rattle.word_operations.specs.Casts.{sext_of}
use Rattle.base_strides.specs.Instance.{word_laws}
use Rattle.base_strides.specs.Meaning.{on_one}
use Rattle.base_strides.specs.Rows.{sext_row}
use Rattle.base_strides.proofs.Fitting.{fits_of}
use Rattle.base_strides.proofs.base.StridesBase.sext.Goals as goal

pub returns-clause-fits : goal.returns-clause-fits
returns-clause-fits c =
    fits_of c.args.to c.change_word.result (on_one (sext_of c.args.from c.args.to) (sext_row c.args.from c.args.to) c.args.x.now) c.change_word.ensures.value
    (word_laws.sext_fits [] c.args.from c.args.to c.args.x.now c.requires.widths c.requires.word)

use Rattle.std.proofs.Common.{[]}
use Rattle.word_operations.specs.Op1.{op1_of}
use Rattle.base_strides.specs.Instance.{word_laws}
use Rattle.base_strides.specs.Meaning.{on_one}
use Rattle.base_strides.specs.Rows.{op1_row}
use Rattle.base_strides.proofs.Fitting.{fits_of}
use Rattle.base_strides.proofs.base.StridesBase.op1.Goals as goal

pub returns-clause-fits : goal.returns-clause-fits
returns-clause-fits c =
    fits_of c.args.w c.change_word.result (on_one (op1_of c.args.op c.args.w) (op1_row c.args.op c.args.w) c.args.x.now) c.change_word.ensures.value
    (word_laws.op1_fits [] c.args.op c.args.w c.args.x.now c.requires.width c.requires.word)

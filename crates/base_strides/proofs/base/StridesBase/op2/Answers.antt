use Rattle.std.proofs.Common.{[]}
use Rattle.word_operations.specs.Op2.{op2_of}
use Rattle.base_strides.specs.Instance.{word_laws}
use Rattle.base_strides.specs.Meaning.{on_two}
use Rattle.base_strides.specs.Rows.{op2_row}
use Rattle.base_strides.proofs.Fitting.{fits_of}
use Rattle.base_strides.proofs.base.StridesBase.op2.Goals as goal

pub returns-clause-fits : goal.returns-clause-fits
returns-clause-fits c =
    fits_of c.args.w c.op2_of_words.result (on_two (op2_of c.args.op c.args.w) (op2_row c.args.op c.args.w) c.args.x.now c.args.y.now) c.op2_of_words.ensures.value
    (word_laws.op2_fits [] c.args.op c.args.w c.args.x.now c.args.y.now c.requires.width c.requires.left c.requires.right)

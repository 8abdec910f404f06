use Rattle.base_strides.specs.Meaning.{Fits}
use Rattle.base_cuts.specs.StrideLaws.{meet_fits}
use Rattle.base_cuts.specs.Strides.{word_meet}
use Rattle.base_cuts.proofs.Left.{left_fits}
use Rattle.base_cuts.proofs.strides.StridesCutBase.meet.Goals as goal

pub returns-clause-fits : goal.returns-clause-fits
returns-clause-fits c =
    left_fits (Fits c.args.w) c.meet_word.result (word_meet c.args.x.now c.args.low c.args.high) c.meet_word.ensures (meet_fits c.args.w c.args.low c.args.high c.args.x.now c.requires.word)

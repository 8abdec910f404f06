use Rattle.base_kset.specs.Meaning.{Fits}
use Rattle.base_cuts.specs.SetLaws.{meet_fits}
use Rattle.base_cuts.specs.Sets.{set_meet}
use Rattle.base_cuts.proofs.Left.{left_fits}
use Rattle.base_cuts.proofs.sets.DefUseCutBase.meet.Goals as goal

pub returns-clause-fits : goal.returns-clause-fits
returns-clause-fits c =
    left_fits (Fits 1 c.args.w) c.meet_set.result (set_meet 1 c.args.w c.args.x.now c.args.low c.args.high) c.meet_set.ensures (meet_fits 1 c.args.w c.args.low c.args.high c.args.x.now c.requires.word)

use Rattle.base_cuts.specs.UncutLaws.{words_may_stay_uncut}
use Rattle.base_cuts.proofs.laws.words_may_stay_uncut.Goals as goal

pub returns : goal.returns
returns g c = words_may_stay_uncut g.B.Base.algebra g.met.B.Base.laws

use Rattle.base_cuts.specs.PairLaws.{pairs_are_cut}
use Rattle.base_cuts.proofs.laws.pairs_are_cut.Goals as goal

pub returns : goal.returns
returns g c = pairs_are_cut g.A.Base.algebra g.B.Base.algebra

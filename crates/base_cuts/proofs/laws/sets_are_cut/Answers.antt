use Rattle.base_cuts.specs.SetLaws.{sets_are_cut}
use Rattle.base_cuts.proofs.laws.sets_are_cut.Goals as goal

pub returns : goal.returns
returns g c = sets_are_cut g.row.K

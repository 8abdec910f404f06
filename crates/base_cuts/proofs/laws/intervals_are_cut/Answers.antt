use Rattle.base_cuts.specs.IntervalLaws.{intervals_are_cut}
use Rattle.base_cuts.proofs.laws.intervals_are_cut.Goals as goal

pub returns : goal.returns
returns c = intervals_are_cut

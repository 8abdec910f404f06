use Rattle.base_cuts.specs.StrideLaws.{strides_are_cut}
use Rattle.base_cuts.proofs.laws.strides_are_cut.Goals as goal

pub returns : goal.returns
returns c = strides_are_cut

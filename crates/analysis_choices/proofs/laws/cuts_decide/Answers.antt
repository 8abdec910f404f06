use Rattle.analysis_choices.proofs.Deciding.{cuts_decide}
use Rattle.analysis_choices.proofs.laws.cuts_decide.Goals as goal

pub returns : goal.returns
returns c = cuts_decide

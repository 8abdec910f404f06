use Rattle.analysis_query_laws.proofs.One.{slices_are_of_uses}
use Rattle.analysis_query_laws.proofs.laws.slices_are_of_uses.Goals as goal

pub returns : goal.returns
returns g c = slices_are_of_uses g.A.Analyser.view

use Rattle.analysis_query_laws.proofs.Forms.{forms_are_sums}
use Rattle.analysis_query_laws.proofs.laws.forms_are_sums.Goals as goal

pub returns : goal.returns
returns c = forms_are_sums

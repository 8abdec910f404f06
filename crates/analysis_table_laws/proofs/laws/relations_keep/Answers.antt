use Rattle.analysis_table_laws.proofs.Affine.{relations_keep}
use Rattle.analysis_table_laws.proofs.laws.relations_keep.Goals as goal

pub returns : goal.returns
returns c = λ code t. relations_keep t code

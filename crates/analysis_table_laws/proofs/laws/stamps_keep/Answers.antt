use Rattle.analysis_table_laws.proofs.Notes.{stamps_keep}
use Rattle.analysis_table_laws.proofs.laws.stamps_keep.Goals as goal

pub returns : goal.returns
returns c = stamps_keep

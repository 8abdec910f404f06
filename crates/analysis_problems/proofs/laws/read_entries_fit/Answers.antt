use Rattle.analysis_problems.proofs.Entries.{read_entries_fit}
use Rattle.analysis_problems.proofs.laws.read_entries_fit.Goals as goal

pub returns : goal.returns
returns c = read_entries_fit

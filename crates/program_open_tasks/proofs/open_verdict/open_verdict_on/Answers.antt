use Rattle.fixpoint_open_tables.specs.Endings.{ends_in}
use Rattle.analysis_transfer.specs.Analysis.{problem}
use Rattle.program_open_tasks.proofs.OwningEndings.{own_open_verdict}
use Rattle.program_open_tasks.proofs.open_verdict.open_verdict_on.Goals as goal

pub returns-clause-verdict : goal.returns-clause-verdict
returns-clause-verdict g c =
    let it = c.args.it.now in
    own_open_verdict (record { base = g.D.B.Base.algebra; cap = g.D.B.Base.CAP; elements = g.D.Domain.elements it.domain.now; meaning = g.D.Domain.meaning it.domain.now; pieces = g.D.Domain.pieces it.domain.now; view = g.D.Domain.view; IsText = g.D.WriteElement.IsText; Reads = g.D.ReadElement.Reads it.domain.now; word_in = g.D.ReadElement.word_in it.domain.now; word_text = g.D.WriteElement.word_text }) (problem it)
    c.args.found.now.table (ends_in c.args.found.now.endings) c.check_open.result c.requires.fits c.check_open.ensures.value c.check_open.ensures.runs

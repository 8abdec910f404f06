use Rattle.analysis_transfer.specs.Analysis.{problem}
use Rattle.program_domain_tasks.proofs.Owning.{own_verdict}
use Rattle.program_domain_tasks.proofs.verdict.verdict_on.Goals as goal

pub returns-clause-verdict : goal.returns-clause-verdict
returns-clause-verdict g c =
    let it = c.args.it.now in
    own_verdict (record { base = g.D.B.Base.algebra; cap = g.D.B.Base.CAP; elements = g.D.Domain.elements it.domain.now; meaning = g.D.Domain.meaning it.domain.now; pieces = g.D.Domain.pieces it.domain.now; view = g.D.Domain.view; IsText = g.D.WriteElement.IsText; Reads = g.D.ReadElement.Reads it.domain.now; word_in = g.D.ReadElement.word_in it.domain.now; word_text = g.D.WriteElement.word_text }) (problem it)
    c.args.table.now c.check.result c.requires.fits c.check.ensures.value c.check.ensures.runs

use Rattle.support_command_line.specs.Bases.{base_text}
use Rattle.analysis_transfer.specs.Analysis.{problem}
use Rattle.program_common.specs.Outcomes.{answer_of}
use Rattle.program_domain_tasks.proofs.Owning.{own_stop, own_table}
use Rattle.analysis_cuts.proofs.Truth.{image_keeps_the_laws}
use Rattle.program_domain_tasks.proofs.table.table_outcome.Goals as goal

pub returns-in_ok-table_answer-in-Ok-clause-gives : goal.returns-in_ok-table_answer-in-Ok-clause-gives
returns-in_ok-table_answer-in-Ok-clause-gives g c =
    let it = c.args.it.now in
    own_table (record { base = g.D.B.Base.algebra; cap = g.D.B.Base.CAP; elements = g.D.Domain.elements it.domain.now; meaning = g.D.Domain.meaning it.domain.now; pieces = g.D.Domain.pieces it.domain.now; view = g.D.Domain.view; IsText = g.D.WriteElement.IsText; Reads = g.D.ReadElement.Reads it.domain.now; word_in = g.D.ReadElement.word_in it.domain.now; word_text = g.D.WriteElement.word_text })
    (problem it) it.image.now (base_text c.args.base) c.in-Ok.field-0 (answer_of c.in_ok-table_answer-in-Ok.field-0)
    (image_keeps_the_laws g.D.B.Base.algebra g.met.D.B.Base.laws g.D.B.Base.CAP (g.D.Domain.elements it.domain.now) (g.D.Domain.meaning it.domain.now) (g.D.Domain.pieces it.domain.now) (g.D.Domain.is_for it.domain.now) it
    (g.met.D.Domain.laws it.domain.now (problem it).spec c.requires.ready.made) (g.met.D.Domain.cut_laws it.domain.now (problem it).spec c.requires.ready.made) c.requires.ready)
    c.in-Ok.ensures.value c.in-Ok.ensures.fits c.in-Ok.ensures.runs c.in_ok-table_answer-in-Ok.ensures

pub returns-in-Err-clause-gives : goal.returns-in-Err-clause-gives
returns-in-Err-clause-gives g c =
    let it = c.args.it.now in
    own_stop (record { base = g.D.B.Base.algebra; cap = g.D.B.Base.CAP; elements = g.D.Domain.elements it.domain.now; meaning = g.D.Domain.meaning it.domain.now; pieces = g.D.Domain.pieces it.domain.now; view = g.D.Domain.view; IsText = g.D.WriteElement.IsText; Reads = g.D.ReadElement.Reads it.domain.now; word_in = g.D.ReadElement.word_in it.domain.now; word_text = g.D.WriteElement.word_text })
    (problem it) it.image.now (base_text c.args.base) c.in-Err.error c.refusal_of_stop.result
    (image_keeps_the_laws g.D.B.Base.algebra g.met.D.B.Base.laws g.D.B.Base.CAP (g.D.Domain.elements it.domain.now) (g.D.Domain.meaning it.domain.now) (g.D.Domain.pieces it.domain.now) (g.D.Domain.is_for it.domain.now) it
    (g.met.D.Domain.laws it.domain.now (problem it).spec c.requires.ready.made) (g.met.D.Domain.cut_laws it.domain.now (problem it).spec c.requires.ready.made) c.requires.ready)
    c.in-Err.ensures.value c.refusal_of_stop.ensures

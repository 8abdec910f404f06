use Rattle.fixpoint_open_tables.specs.Endings.{ends_in}
use Rattle.support_command_line.specs.Bases.{base_text}
use Rattle.spec_ir.specs.Views.{specification}
use Rattle.text_table_reader.specs.Tables.{IsErrorIn}
use Rattle.program_common.specs.Outcomes.{answer_of}
use Rattle.program_domain_tasks.specs.Own.{OwnRewrites, unread}
use Rattle.program_domain_tasks.proofs.Asked.{machine_states}
use Rattle.program_domain_tasks.proofs.Owning.{gives_unread, own_rewritten}
use Rattle.program_domain_tasks.proofs.convert.convert_in_domain.Goals as goal

pub read_table-requires-clause-states : goal.read_table-requires-clause-states
read_table-requires-clause-states g c = machine_states (specification c.args.it.now.spec.now) c.requires.machine

pub returns-in_err-table : goal.returns-in_err-table
returns-in_err-table g c =
    let s = c.args.it.now in
    let spec = specification s.spec.now in
    let base = base_text c.args.base in
    gives_unread (OwnRewrites (record { base = g.D.B.Base.algebra; cap = g.D.B.Base.CAP; elements = g.D.Domain.elements c.args.domain.now; meaning = g.D.Domain.meaning c.args.domain.now; pieces = g.D.Domain.pieces c.args.domain.now; view = g.D.Domain.view; IsText = g.D.WriteElement.IsText; Reads = g.D.ReadElement.Reads c.args.domain.now; word_in = g.D.ReadElement.word_in c.args.domain.now; word_text = g.D.WriteElement.word_text }) spec s.image.now base c.args.bytes.now)
    (IsErrorIn (g.D.ReadElement.Reads c.args.domain.now) (g.D.ReadElement.word_in c.args.domain.now) spec base s.image.now c.args.bytes.now) (λ error is. unread is) answer_of c.in_err-table.field-0.0 c.in_err-table.ensures.error c.from_residual.result c.from_residual.ensures.1

pub returns : goal.returns
returns g c =
    let s = c.args.it.now in
    own_rewritten (record { base = g.D.B.Base.algebra; cap = g.D.B.Base.CAP; elements = g.D.Domain.elements c.args.domain.now; meaning = g.D.Domain.meaning c.args.domain.now; pieces = g.D.Domain.pieces c.args.domain.now; view = g.D.Domain.view; IsText = g.D.WriteElement.IsText; Reads = g.D.ReadElement.Reads c.args.domain.now; word_in = g.D.ReadElement.word_in c.args.domain.now; word_text = g.D.WriteElement.word_text }) s.image.now (base_text c.args.base) c.args.bytes.now
    (specification s.spec.now) c.in_ok-table.field-0.table (ends_in c.in_ok-table.field-0.endings) (answer_of c.in_ok-open_table_answer.field-0) c.in_ok-table.ensures.table c.in_ok-open_table_answer.ensures

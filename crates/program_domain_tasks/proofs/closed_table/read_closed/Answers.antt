use Rattle.fixpoint_open_tables.specs.Endings.{ends_in}
use Rattle.support_command_line.specs.Bases.{base_text}
use Rattle.spec_ir.specs.Views.{specification}
use Rattle.program_domain_tasks.specs.Own.{left_open}
use Rattle.program_domain_tasks.proofs.Owning.{refused_unread}
use Rattle.program_domain_tasks.proofs.closed_table.read_closed.Goals as goal

pub returns-in_err-table-clause-refused : goal.returns-in_err-table-clause-refused
returns-in_err-table-clause-refused g c =
    let s = c.args.it.now in
    refused_unread (record { base = g.D.B.Base.algebra; cap = g.D.B.Base.CAP; elements = g.D.Domain.elements c.args.domain.now; meaning = g.D.Domain.meaning c.args.domain.now; pieces = g.D.Domain.pieces c.args.domain.now; view = g.D.Domain.view; IsText = g.D.WriteElement.IsText; Reads = g.D.ReadElement.Reads c.args.domain.now; word_in = g.D.ReadElement.word_in c.args.domain.now; word_text = g.D.WriteElement.word_text }) s.image.now (base_text c.args.base) c.args.bytes.now
    (specification s.spec.now) c.in_err-table.field-0.0 c.in_err-table.ensures.error c.from_residual.result c.from_residual.ensures.1

pub returns-in-Some-clause-refused : goal.returns-in-Some-clause-refused
returns-in-Some-clause-refused g c =
    left_open c.in_ok-table.field-0.table (ends_in c.in_ok-table.field-0.endings) c.in_ok-table.ensures.table c.in-Some.ensures.some

use Rattle.std.proofs.Common.{arith, inl}
use Rattle.support_command_line.specs.Bases.{base_text}
use Rattle.spec_ir.specs.Views.{specification}
use Rattle.state_text.specs.Reading.{entry_of}
use Rattle.program_common.specs.Outcomes.{answer_of}
use Rattle.program_domain_tasks.specs.Own.{OwnJudges, refused}
use Rattle.program_domain_tasks.specs.Read.{problem_at}
use Rattle.program_domain_tasks.proofs.Asked.{read_states}
use Rattle.program_domain_tasks.proofs.Owning.{checked_answer, checked_refusal, gives_refused}
use Rattle.program_domain_tasks.proofs.Working.{own_works}
use Rattle.program_domain_tasks.proofs.check.check_in_domain.Goals as goal

pub read_closed-requires-clause-states : goal.read_closed-requires-clause-states
read_closed-requires-clause-states g c = let start = c.args.start.now in read_states (specification c.args.it.now.spec.now) start.machine (entry_of start.entry.now) c.requires.read

pub returns-in_err-table-clause-gives : goal.returns-in_err-table-clause-gives
returns-in_err-table-clause-gives g c =
    let s = c.args.it.now in
    let spec = specification s.spec.now in
    let base = base_text c.args.base in
    gives_refused (record { base = g.D.B.Base.algebra; cap = g.D.B.Base.CAP; elements = g.D.Domain.elements c.args.domain.now; meaning = g.D.Domain.meaning c.args.domain.now; pieces = g.D.Domain.pieces c.args.domain.now; view = g.D.Domain.view; IsText = g.D.WriteElement.IsText; Reads = g.D.ReadElement.Reads c.args.domain.now; word_in = g.D.ReadElement.word_in c.args.domain.now; word_text = g.D.WriteElement.word_text }) s.image.now base c.args.bytes.now spec (OwnJudges (record { base = g.D.B.Base.algebra; cap = g.D.B.Base.CAP; elements = g.D.Domain.elements c.args.domain.now; meaning = g.D.Domain.meaning c.args.domain.now; pieces = g.D.Domain.pieces c.args.domain.now; view = g.D.Domain.view; IsText = g.D.WriteElement.IsText; Reads = g.D.ReadElement.Reads c.args.domain.now; word_in = g.D.ReadElement.word_in c.args.domain.now; word_text = g.D.WriteElement.word_text }) (problem_at spec s.image.now c.args.start.now) s.image.now base c.args.bytes.now)
    (λ refusal is. refused is) answer_of c.in_err-table.field-0.0 c.in_err-table.ensures.refused c.from_residual.result c.from_residual.ensures.1

pub returns-in_err-require_closed-clause-gives : goal.returns-in_err-require_closed-clause-gives
returns-in_err-require_closed-clause-gives g c =
    let s = c.args.it.now in
    checked_refusal (record { base = g.D.B.Base.algebra; cap = g.D.B.Base.CAP; elements = g.D.Domain.elements c.args.domain.now; meaning = g.D.Domain.meaning c.args.domain.now; pieces = g.D.Domain.pieces c.args.domain.now; view = g.D.Domain.view; IsText = g.D.WriteElement.IsText; Reads = g.D.ReadElement.Reads c.args.domain.now; word_in = g.D.ReadElement.word_in c.args.domain.now; word_text = g.D.WriteElement.word_text })
    (problem_at (specification s.spec.now) s.image.now c.args.start.now) s.image.now (base_text c.args.base) c.args.bytes.now c.in_ok-table.table c.in_ok-verdict.verdict c.in_ok-table.ensures.table c.in_ok-verdict.ensures.verdict
    answer_of c.in_err-require_closed.field-0.0 c.in_err-require_closed.ensures c.from_residual-in_err-require_closed.result c.from_residual-in_err-require_closed.ensures.1

pub returns-clause-gives : goal.returns-clause-gives
returns-clause-gives g c =
    let s = c.args.it.now in
    checked_answer (record { base = g.D.B.Base.algebra; cap = g.D.B.Base.CAP; elements = g.D.Domain.elements c.args.domain.now; meaning = g.D.Domain.meaning c.args.domain.now; pieces = g.D.Domain.pieces c.args.domain.now; view = g.D.Domain.view; IsText = g.D.WriteElement.IsText; Reads = g.D.ReadElement.Reads c.args.domain.now; word_in = g.D.ReadElement.word_in c.args.domain.now; word_text = g.D.WriteElement.word_text })
    (problem_at (specification s.spec.now) s.image.now c.args.start.now) s.image.now (base_text c.args.base) c.args.bytes.now c.in_ok-table.table c.in_ok-verdict.verdict c.in_ok-table.ensures.table c.in_ok-verdict.ensures.verdict
    (answer_of c.in_ok-answer_accepted.field-0) c.in_ok-require_closed.ensures c.in_ok-answer_accepted.ensures

pub returns-in_err-table-clause-work : goal.returns-in_err-table-clause-work
returns-in_err-table-clause-work g c = inl (omega (arith))

pub returns-in_err-verdict-clause-work : goal.returns-in_err-verdict-clause-work
returns-in_err-verdict-clause-work g c =
    let s = c.args.it.now in
    own_works (record { base = g.D.B.Base.algebra; cap = g.D.B.Base.CAP; elements = g.D.Domain.elements c.args.domain.now; meaning = g.D.Domain.meaning c.args.domain.now; pieces = g.D.Domain.pieces c.args.domain.now; view = g.D.Domain.view; IsText = g.D.WriteElement.IsText; Reads = g.D.ReadElement.Reads c.args.domain.now; word_in = g.D.ReadElement.word_in c.args.domain.now; word_text = g.D.WriteElement.word_text })
    (specification s.spec.now) s.image.now (base_text c.args.base) c.args.bytes.now c.in_ok-table.table c.in_ok-table.ensures.table c.in_err-verdict.ensures.ordered c.args.steps.now c.verdict_in.new.steps c.in_err-verdict.ensures.work

pub returns-in_err-require_closed-clause-work : goal.returns-in_err-require_closed-clause-work
returns-in_err-require_closed-clause-work g c =
    let s = c.args.it.now in
    own_works (record { base = g.D.B.Base.algebra; cap = g.D.B.Base.CAP; elements = g.D.Domain.elements c.args.domain.now; meaning = g.D.Domain.meaning c.args.domain.now; pieces = g.D.Domain.pieces c.args.domain.now; view = g.D.Domain.view; IsText = g.D.WriteElement.IsText; Reads = g.D.ReadElement.Reads c.args.domain.now; word_in = g.D.ReadElement.word_in c.args.domain.now; word_text = g.D.WriteElement.word_text })
    (specification s.spec.now) s.image.now (base_text c.args.base) c.args.bytes.now c.in_ok-table.table c.in_ok-table.ensures.table c.in_ok-verdict.ensures.ordered c.args.steps.now c.verdict_in.new.steps c.in_ok-verdict.ensures.work

pub returns-in_err-answer_accepted-clause-work : goal.returns-in_err-answer_accepted-clause-work
returns-in_err-answer_accepted-clause-work g c =
    let s = c.args.it.now in
    own_works (record { base = g.D.B.Base.algebra; cap = g.D.B.Base.CAP; elements = g.D.Domain.elements c.args.domain.now; meaning = g.D.Domain.meaning c.args.domain.now; pieces = g.D.Domain.pieces c.args.domain.now; view = g.D.Domain.view; IsText = g.D.WriteElement.IsText; Reads = g.D.ReadElement.Reads c.args.domain.now; word_in = g.D.ReadElement.word_in c.args.domain.now; word_text = g.D.WriteElement.word_text })
    (specification s.spec.now) s.image.now (base_text c.args.base) c.args.bytes.now c.in_ok-table.table c.in_ok-table.ensures.table c.in_ok-verdict.ensures.ordered c.args.steps.now c.verdict_in.new.steps c.in_ok-verdict.ensures.work

pub returns-clause-work : goal.returns-clause-work
returns-clause-work g c =
    let s = c.args.it.now in
    own_works (record { base = g.D.B.Base.algebra; cap = g.D.B.Base.CAP; elements = g.D.Domain.elements c.args.domain.now; meaning = g.D.Domain.meaning c.args.domain.now; pieces = g.D.Domain.pieces c.args.domain.now; view = g.D.Domain.view; IsText = g.D.WriteElement.IsText; Reads = g.D.ReadElement.Reads c.args.domain.now; word_in = g.D.ReadElement.word_in c.args.domain.now; word_text = g.D.WriteElement.word_text })
    (specification s.spec.now) s.image.now (base_text c.args.base) c.args.bytes.now c.in_ok-table.table c.in_ok-table.ensures.table c.in_ok-verdict.ensures.ordered c.args.steps.now c.verdict_in.new.steps c.in_ok-verdict.ensures.work

use Rattle.std.proofs.Common.{◌≡◌, map, subst, sym, arith, inl}
use Rattle.support_command_line.specs.Bases.{base_text}
use Rattle.spec_ir.specs.Views.{specification}
use Rattle.state_text.specs.Reading.{entry_of}
use Rattle.program_common.specs.Outcomes.{answer_of}
use Rattle.domain_laws.specs.States.{state_type}
use Rattle.base_trait.specs.Lists.{Each}
use Rattle.analysis_query_laws.specs.Laws.{IsClaim}
use Rattle.analysis_claims.specs.Tables.{claim}
use Rattle.fixpoint_theory.specs.Views.{listings}
use Rattle.text_claims.specs.Answers.{answers}
use Rattle.text_claims.specs.Reading.{claims_of, has_word, read}
use Rattle.program_domain_tasks.specs.Claims.{OwnClaims, refused, unread}
use Rattle.program_domain_tasks.specs.Read.{IsTextOf, problem_at}
use Rattle.program_domain_tasks.proofs.Asked.{read_states}
use Rattle.program_domain_tasks.proofs.Owning.{claimed_answer, claimed_refusal, gives_unclaimed, gives_refused, of_cells}
use Rattle.program_domain_tasks.proofs.Working.{own_works}
use Rattle.program_domain_tasks.proofs.claims.claims_in_domain.Goals as goal

pub read_closed-requires-clause-states : goal.read_closed-requires-clause-states
read_closed-requires-clause-states g c = let start = c.args.start.now in read_states (specification c.args.it.now.spec.now) start.machine (entry_of start.entry.now) c.requires.read

pub returns-in_err-table-clause-gives : goal.returns-in_err-table-clause-gives
returns-in_err-table-clause-gives g c =
    let s = c.args.it.now in
    let spec = specification s.spec.now in
    let base = base_text c.args.base in
    gives_refused (record { base = g.D.B.Base.algebra; cap = g.D.B.Base.CAP; elements = g.D.Domain.elements c.args.domain.now; meaning = g.D.Domain.meaning c.args.domain.now; pieces = g.D.Domain.pieces c.args.domain.now; view = g.D.Domain.view; IsText = g.D.WriteElement.IsText; Reads = g.D.ReadElement.Reads c.args.domain.now; word_in = g.D.ReadElement.word_in c.args.domain.now; word_text = g.D.WriteElement.word_text }) s.image.now base c.args.bytes.now spec (OwnClaims (record { base = g.D.B.Base.algebra; cap = g.D.B.Base.CAP; elements = g.D.Domain.elements c.args.domain.now; meaning = g.D.Domain.meaning c.args.domain.now; pieces = g.D.Domain.pieces c.args.domain.now; view = g.D.Domain.view; IsText = g.D.WriteElement.IsText; Reads = g.D.ReadElement.Reads c.args.domain.now; word_in = g.D.ReadElement.word_in c.args.domain.now; word_text = g.D.WriteElement.word_text }) (g.D.ClaimElement.telling c.args.domain.now) (problem_at spec s.image.now c.args.start.now) s.image.now base c.args.bytes.now c.args.list.now)
    (λ refusal is. refused is) answer_of c.in_err-table.field-0.0 c.in_err-table.ensures.refused c.from_residual.result c.from_residual.ensures.1

pub returns-in_err-claims-clause-gives : goal.returns-in_err-claims-clause-gives
returns-in_err-claims-clause-gives g c =
    let s = c.args.it.now in
    let spec = specification s.spec.now in
    let base = base_text c.args.base in
    gives_unclaimed (OwnClaims (record { base = g.D.B.Base.algebra; cap = g.D.B.Base.CAP; elements = g.D.Domain.elements c.args.domain.now; meaning = g.D.Domain.meaning c.args.domain.now; pieces = g.D.Domain.pieces c.args.domain.now; view = g.D.Domain.view; IsText = g.D.WriteElement.IsText; Reads = g.D.ReadElement.Reads c.args.domain.now; word_in = g.D.ReadElement.word_in c.args.domain.now; word_text = g.D.WriteElement.word_text }) (g.D.ClaimElement.telling c.args.domain.now) (problem_at spec s.image.now c.args.start.now) s.image.now base c.args.bytes.now c.args.list.now)
    (read (g.D.ClaimElement.telling c.args.domain.now) (has_word s.image.now) spec c.args.list.now) (λ error e. unread c.in_ok-table.table c.in_ok-table.ensures.table e) answer_of c.in_err-claims.field-0.0 c.in_err-claims.ensures.answer c.from_residual-in_err-claims.result c.from_residual-in_err-claims.ensures.1

pub answer_of_text-requires-clause-fits : goal.answer_of_text-requires-clause-fits
answer_of_text-requires-clause-fits g c = λ at b listed. (c.in_ok-table.ensures.fits at b listed).1

pub answer_of_text-requires-clause-claims : goal.answer_of_text-requires-clause-claims
answer_of_text-requires-clause-claims g c =
    let s = c.args.it.now in
    let spec = specification s.spec.now in
    let told = g.D.ClaimElement.telling c.args.domain.now in
    subst (λ claims. Each (IsClaim told (state_type spec).fields) (map claim claims)) (sym c.deref.ensures.value) (of_cells told (has_word s.image.now) spec (claims_of c.in_ok-claims.claims) c.in_ok-claims.ensures.claims)

pub returns-in_err-require_closed-clause-gives : goal.returns-in_err-require_closed-clause-gives
returns-in_err-require_closed-clause-gives g c =
    let s = c.args.it.now in
    claimed_refusal (record { base = g.D.B.Base.algebra; cap = g.D.B.Base.CAP; elements = g.D.Domain.elements c.args.domain.now; meaning = g.D.Domain.meaning c.args.domain.now; pieces = g.D.Domain.pieces c.args.domain.now; view = g.D.Domain.view; IsText = g.D.WriteElement.IsText; Reads = g.D.ReadElement.Reads c.args.domain.now; word_in = g.D.ReadElement.word_in c.args.domain.now; word_text = g.D.WriteElement.word_text })
    (problem_at (specification s.spec.now) s.image.now c.args.start.now) s.image.now (base_text c.args.base) c.args.bytes.now c.in_ok-table.table c.in_ok-verdict.verdict c.in_ok-table.ensures.table c.in_ok-verdict.ensures.verdict
    (g.D.ClaimElement.telling c.args.domain.now) c.args.list.now (claims_of c.in_ok-claims.claims) c.in_ok-claims.ensures.answer answer_of c.in_err-require_closed.field-0.0 c.in_err-require_closed.ensures c.from_residual-in_err-require_closed.result c.from_residual-in_err-require_closed.ensures.1

pub returns-clause-gives : goal.returns-clause-gives
returns-clause-gives g c =
    let s = c.args.it.now in
    claimed_answer (record { base = g.D.B.Base.algebra; cap = g.D.B.Base.CAP; elements = g.D.Domain.elements c.args.domain.now; meaning = g.D.Domain.meaning c.args.domain.now; pieces = g.D.Domain.pieces c.args.domain.now; view = g.D.Domain.view; IsText = g.D.WriteElement.IsText; Reads = g.D.ReadElement.Reads c.args.domain.now; word_in = g.D.ReadElement.word_in c.args.domain.now; word_text = g.D.WriteElement.word_text })
    (problem_at (specification s.spec.now) s.image.now c.args.start.now) s.image.now (base_text c.args.base) c.args.bytes.now c.in_ok-table.table c.in_ok-verdict.verdict c.in_ok-table.ensures.table c.in_ok-verdict.ensures.verdict
    (g.D.ClaimElement.telling c.args.domain.now) c.args.list.now (claims_of c.in_ok-claims.claims) c.in_ok-claims.ensures.answer (answer_of c.in_ok-answer_of_text.field-0) c.in_ok-require_closed.ensures
    (subst (λ claims. IsTextOf (λ text. text ≡ answers (g.D.ClaimElement.telling c.args.domain.now) (listings (λ x. x) c.in_ok-table.table) (map claim claims)) (answer_of c.in_ok-answer_of_text.field-0)) c.deref.ensures.value c.in_ok-answer_of_text.ensures)

pub returns-in_err-table-clause-work : goal.returns-in_err-table-clause-work
returns-in_err-table-clause-work g c = inl (omega (arith))

pub returns-in_err-claims-clause-work : goal.returns-in_err-claims-clause-work
returns-in_err-claims-clause-work g c = inl (omega (arith))

pub returns-in_err-verdict-clause-work : goal.returns-in_err-verdict-clause-work
returns-in_err-verdict-clause-work g c =
    let s = c.args.it.now in
    own_works (record { base = g.D.B.Base.algebra; cap = g.D.B.Base.CAP; elements = g.D.Domain.elements c.args.domain.now; meaning = g.D.Domain.meaning c.args.domain.now; pieces = g.D.Domain.pieces c.args.domain.now; view = g.D.Domain.view; IsText = g.D.WriteElement.IsText; Reads = g.D.ReadElement.Reads c.args.domain.now; word_in = g.D.ReadElement.word_in c.args.domain.now; word_text = g.D.WriteElement.word_text })
    (specification s.spec.now) s.image.now (base_text c.args.base) c.args.bytes.now c.in_ok-table.table c.in_ok-table.ensures.table c.in_err-verdict.ensures.ordered c.args.steps.now c.verdict_in.new.steps c.in_err-verdict.ensures.work

pub returns-in_err-require_closed-clause-work : goal.returns-in_err-require_closed-clause-work
returns-in_err-require_closed-clause-work g c =
    let s = c.args.it.now in
    own_works (record { base = g.D.B.Base.algebra; cap = g.D.B.Base.CAP; elements = g.D.Domain.elements c.args.domain.now; meaning = g.D.Domain.meaning c.args.domain.now; pieces = g.D.Domain.pieces c.args.domain.now; view = g.D.Domain.view; IsText = g.D.WriteElement.IsText; Reads = g.D.ReadElement.Reads c.args.domain.now; word_in = g.D.ReadElement.word_in c.args.domain.now; word_text = g.D.WriteElement.word_text })
    (specification s.spec.now) s.image.now (base_text c.args.base) c.args.bytes.now c.in_ok-table.table c.in_ok-table.ensures.table c.in_ok-verdict.ensures.ordered c.args.steps.now c.verdict_in.new.steps c.in_ok-verdict.ensures.work

pub returns-in_err-answer_of_text-clause-work : goal.returns-in_err-answer_of_text-clause-work
returns-in_err-answer_of_text-clause-work g c =
    let s = c.args.it.now in
    own_works (record { base = g.D.B.Base.algebra; cap = g.D.B.Base.CAP; elements = g.D.Domain.elements c.args.domain.now; meaning = g.D.Domain.meaning c.args.domain.now; pieces = g.D.Domain.pieces c.args.domain.now; view = g.D.Domain.view; IsText = g.D.WriteElement.IsText; Reads = g.D.ReadElement.Reads c.args.domain.now; word_in = g.D.ReadElement.word_in c.args.domain.now; word_text = g.D.WriteElement.word_text })
    (specification s.spec.now) s.image.now (base_text c.args.base) c.args.bytes.now c.in_ok-table.table c.in_ok-table.ensures.table c.in_ok-verdict.ensures.ordered c.args.steps.now c.verdict_in.new.steps c.in_ok-verdict.ensures.work

pub returns-clause-work : goal.returns-clause-work
returns-clause-work g c =
    let s = c.args.it.now in
    own_works (record { base = g.D.B.Base.algebra; cap = g.D.B.Base.CAP; elements = g.D.Domain.elements c.args.domain.now; meaning = g.D.Domain.meaning c.args.domain.now; pieces = g.D.Domain.pieces c.args.domain.now; view = g.D.Domain.view; IsText = g.D.WriteElement.IsText; Reads = g.D.ReadElement.Reads c.args.domain.now; word_in = g.D.ReadElement.word_in c.args.domain.now; word_text = g.D.WriteElement.word_text })
    (specification s.spec.now) s.image.now (base_text c.args.base) c.args.bytes.now c.in_ok-table.table c.in_ok-table.ensures.table c.in_ok-verdict.ensures.ordered c.args.steps.now c.verdict_in.new.steps c.in_ok-verdict.ensures.work

use Rattle.std.proofs.Common.{inr}
use Rattle.std.specs.Prelude.{IsTrue}
use Rattle.support_command_line.specs.Bases.{base_text}
use Rattle.spec_ir.specs.Views.{specification}
use Rattle.program_common.specs.Outcomes.{answer_of}
use Rattle.program_base_tasks.specs.Comes.{OwnComes}
use Rattle.program_domain_tasks.specs.Read.{task_of}
use Rattle.program_base_tasks.proofs.Asked.{asked_few, asked_states}
use Rattle.program_base_tasks.proofs.Bases.{gives_some}
use Rattle.program_base_tasks.proofs.over.in_domain.Goals as goal

pub make_domain-requires-clause-states : goal.make_domain-requires-clause-states
make_domain-requires-clause-states g c = let s = c.args.it.now in asked_states (specification s.spec.now) s.task c.requires.asked

pub make_domain-requires-clause-few : goal.make_domain-requires-clause-few
make_domain-requires-clause-few g c = let s = c.args.it.now in asked_few (specification s.spec.now) s.task c.requires.asked

pub do_task-requires-clause-joins : goal.do_task-requires-clause-joins
do_task-requires-clause-joins g c = g.met.D.NamedDomain.joins c.requires.may

pub returns-clause-gives : goal.returns-clause-gives
returns-clause-gives g c =
    let s = c.args.it.now in
    let spec = specification s.spec.now in
    gives_some c.in_ok-domain.domain (λ d. IsTrue (g.D.Domain.is_for d spec) × g.D.NamedDomain.HasContext d)
    (λ d. OwnComes (record { base = g.D.B.Base.algebra; cap = g.D.B.Base.CAP; elements = g.D.Domain.elements d; meaning = g.D.Domain.meaning d; pieces = g.D.Domain.pieces d; view = g.D.Domain.view; IsText = g.D.WriteElement.IsText; Reads = g.D.ReadElement.Reads d; word_in = g.D.ReadElement.word_in d; word_text = g.D.WriteElement.word_text }) (g.D.ClaimElement.telling d) s.image.now (base_text c.args.base) (task_of spec s.image.now s.task))
    answer_of c.do_task.result (c.in_ok-domain.ensures.made, c.in_ok-domain.ensures.context) c.do_task.ensures.gives

pub returns-clause-work : goal.returns-clause-work
returns-clause-work g c = inr (c.in_ok-domain.domain, (c.in_ok-domain.ensures.made, c.in_ok-domain.ensures.context), c.do_task.ensures.work)

use Rattle.std.specs.Prelude.{IsTrue}
use Rattle.support_command_line.specs.Bases.{base_text}
use Rattle.spec_ir.specs.Views.{specification}
use Rattle.program_domain_tasks.specs.Read.{task_of}
use Rattle.domain_affine_laws.specs.Calls as relation
use Rattle.analysis_query_laws.specs.Affine.{affine_tell}
use Rattle.program_common.specs.Outcomes.{answer_of}
use Rattle.program_base_tasks.proofs.Ties.{gives_comes, own_relations, relations_tie, work_comes}
use Rattle.program_base_tasks.proofs.named.over_relations.Goals as goal

pub returns-clause-gives : goal.returns-clause-gives
returns-clause-gives g c =
    let s = c.args.it.now in
    let spec = specification s.spec.now in
    gives_comes (λ d. IsTrue (relation.is_for d spec) × Unit {0})
    (λ d. own_relations d)
    (λ d. affine_tell d) _
    (λ d made. relations_tie d spec made.0)
    s.image.now (base_text c.args.base) (task_of spec s.image.now s.task) answer_of c.in_domain.result c.in_domain.ensures.gives

pub returns-clause-work : goal.returns-clause-work
returns-clause-work g c =
    let s = c.args.it.now in
    let spec = specification s.spec.now in
    work_comes (λ d. IsTrue (relation.is_for d spec) × Unit {0})
    (λ d. own_relations d)
    (λ d. affine_tell d) _
    (λ d made. relations_tie d spec made.0)
    s.image.now (base_text c.args.base) (task_of spec s.image.now s.task) answer_of c.in_domain.result c.in_domain.ensures.gives c.args.steps.now c.in_domain.new.steps c.in_domain.ensures.work

use Rattle.support_command_line.specs.Bases.{base_text}
use Rattle.spec_ir.specs.Views.{specification}
use Rattle.program_domain_tasks.specs.Read.{task_of}
use Rattle.domain_cells.specs.Views.{context_of, states_of}
use Rattle.domain_product_states.specs.Views.{seen}
use Rattle.program_common.specs.Outcomes.{answer_of}
use Rattle.program_base_tasks.proofs.Sides.{IsMadeFor, both_cells, both_tie, may_both, own_by, told_by}
use Rattle.program_base_tasks.proofs.Ties.{gives_comes, work_comes}
use Rattle.program_base_tasks.proofs.named.over_both.Goals as goal

pub in_domain-requires-clause-may : goal.in_domain-requires-clause-may
in_domain-requires-clause-may g c = may_both g.A.Base.algebra.joins g.B.Base.algebra.joins g.A.Base.algebra.words.looks g.B.Base.algebra.words.looks c.requires.may_A c.requires.may_B

pub returns-clause-gives : goal.returns-clause-gives
returns-clause-gives g c =
    let s = c.args.it.now in
    let spec = specification s.spec.now in
    let A = g.A.Base.algebra in
    let B = g.B.Base.algebra in
    gives_comes (λ d. IsMadeFor A B g.A.NamedBase.shared g.B.NamedBase.shared (context_of d.states) (states_of d.states) spec)
    (λ d. own_by (λ x. seen x) (both_cells A B g.A.CutBase.cuts g.B.CutBase.cuts g.A.Base.CAP g.B.Base.CAP g.A.NamedBase.named g.B.NamedBase.named g.A.BaseText.texts g.B.BaseText.texts g.A.CellBase.readings g.B.CellBase.readings (context_of d.states) (states_of d.states)))
    (λ d. told_by (λ x. seen x) (both_cells A B g.A.CutBase.cuts g.B.CutBase.cuts g.A.Base.CAP g.B.Base.CAP g.A.NamedBase.named g.B.NamedBase.named g.A.BaseText.texts g.B.BaseText.texts g.A.CellBase.readings g.B.CellBase.readings (context_of d.states) (states_of d.states))) _
    (λ d made. both_tie A B g.A.CutBase.cuts g.B.CutBase.cuts g.A.Base.CAP g.B.Base.CAP g.A.NamedBase.named g.B.NamedBase.named g.A.BaseText.texts g.B.BaseText.texts g.A.CellBase.readings g.B.CellBase.readings (λ x. seen x) (context_of d.states) (states_of d.states) g.A.NamedBase.shared g.B.NamedBase.shared spec made)
    s.image.now (base_text c.args.base) (task_of spec s.image.now s.task) answer_of c.in_domain.result c.in_domain.ensures.gives

pub returns-clause-work : goal.returns-clause-work
returns-clause-work g c =
    let s = c.args.it.now in
    let spec = specification s.spec.now in
    let A = g.A.Base.algebra in
    let B = g.B.Base.algebra in
    work_comes (λ d. IsMadeFor A B g.A.NamedBase.shared g.B.NamedBase.shared (context_of d.states) (states_of d.states) spec)
    (λ d. own_by (λ x. seen x) (both_cells A B g.A.CutBase.cuts g.B.CutBase.cuts g.A.Base.CAP g.B.Base.CAP g.A.NamedBase.named g.B.NamedBase.named g.A.BaseText.texts g.B.BaseText.texts g.A.CellBase.readings g.B.CellBase.readings (context_of d.states) (states_of d.states)))
    (λ d. told_by (λ x. seen x) (both_cells A B g.A.CutBase.cuts g.B.CutBase.cuts g.A.Base.CAP g.B.Base.CAP g.A.NamedBase.named g.B.NamedBase.named g.A.BaseText.texts g.B.BaseText.texts g.A.CellBase.readings g.B.CellBase.readings (context_of d.states) (states_of d.states))) _
    (λ d made. both_tie A B g.A.CutBase.cuts g.B.CutBase.cuts g.A.Base.CAP g.B.Base.CAP g.A.NamedBase.named g.B.NamedBase.named g.A.BaseText.texts g.B.BaseText.texts g.A.CellBase.readings g.B.CellBase.readings (λ x. seen x) (context_of d.states) (states_of d.states) g.A.NamedBase.shared g.B.NamedBase.shared spec made)
    s.image.now (base_text c.args.base) (task_of spec s.image.now s.task) answer_of c.in_domain.result c.in_domain.ensures.gives c.args.steps.now c.in_domain.new.steps c.in_domain.ensures.work

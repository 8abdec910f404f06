use Rattle.std.proofs.Common.{◌≡◌, map}
use Rattle.std.specs.Prelude.{IsTrue}
use Rattle.support_command_line.specs.Bases.{base_text}
use Rattle.spec_ir.specs.Views.{specification}
use Rattle.program_domain_tasks.specs.Read.{task_of}
use Rattle.abstract_value_laws.specs.Abs.{parts}
use Rattle.abstract_value.specs.View.{abs}
use Rattle.domain_cells.specs.Views.{context_of, states_of}
use Rattle.domain_laws.specs.Calls as cell
use Rattle.program_common.specs.Outcomes.{answer_of}
use Rattle.program_base_tasks.proofs.Ties.{cells_tie, cells_told, gives_comes, own_cells, work_comes}
use Rattle.program_base_tasks.proofs.named.over_cells.Goals as goal

pub returns-clause-gives : goal.returns-clause-gives
returns-clause-gives g c =
    let s = c.args.it.now in
    let spec = specification s.spec.now in
    gives_comes (λ d. IsTrue (cell.is_for g.A.Base.algebra (states_of d) spec) × (context_of d ≡ g.A.NamedBase.shared))
    (λ d. own_cells (λ x. parts (map abs x.items)) g.A.Base.algebra g.A.CutBase.cuts g.A.Base.CAP g.A.NamedBase.named g.A.BaseText.texts g.A.CellBase.readings (context_of d) (states_of d))
    (λ d. cells_told (λ x. parts (map abs x.items)) g.A.Base.algebra g.A.CutBase.cuts g.A.Base.CAP g.A.NamedBase.named g.A.BaseText.texts g.A.CellBase.readings (context_of d)) _
    (λ d made. cells_tie (λ x. parts (map abs x.items)) g.A.Base.algebra g.A.CutBase.cuts g.A.Base.CAP g.A.NamedBase.named g.A.BaseText.texts g.A.CellBase.readings (context_of d) g.A.NamedBase.shared (states_of d) spec made.1 made.0)
    s.image.now (base_text c.args.base) (task_of spec s.image.now s.task) answer_of c.in_domain.result c.in_domain.ensures.gives

pub returns-clause-work : goal.returns-clause-work
returns-clause-work g c =
    let s = c.args.it.now in
    let spec = specification s.spec.now in
    work_comes (λ d. IsTrue (cell.is_for g.A.Base.algebra (states_of d) spec) × (context_of d ≡ g.A.NamedBase.shared))
    (λ d. own_cells (λ x. parts (map abs x.items)) g.A.Base.algebra g.A.CutBase.cuts g.A.Base.CAP g.A.NamedBase.named g.A.BaseText.texts g.A.CellBase.readings (context_of d) (states_of d))
    (λ d. cells_told (λ x. parts (map abs x.items)) g.A.Base.algebra g.A.CutBase.cuts g.A.Base.CAP g.A.NamedBase.named g.A.BaseText.texts g.A.CellBase.readings (context_of d)) _
    (λ d made. cells_tie (λ x. parts (map abs x.items)) g.A.Base.algebra g.A.CutBase.cuts g.A.Base.CAP g.A.NamedBase.named g.A.BaseText.texts g.A.CellBase.readings (context_of d) g.A.NamedBase.shared (states_of d) spec made.1 made.0)
    s.image.now (base_text c.args.base) (task_of spec s.image.now s.task) answer_of c.in_domain.result c.in_domain.ensures.gives c.args.steps.now c.in_domain.new.steps c.in_domain.ensures.work

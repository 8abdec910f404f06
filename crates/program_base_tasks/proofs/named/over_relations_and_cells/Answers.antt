use Rattle.std.proofs.Common.{◌≡◌, map}
use Rattle.std.specs.Prelude.{◌&&◌, IsTrue}
use Rattle.support_command_line.specs.Bases.{base_text}
use Rattle.spec_ir.specs.Views.{specification}
use Rattle.program_domain_tasks.specs.Read.{task_of}
use Rattle.abstract_value_laws.specs.Abs.{parts}
use Rattle.abstract_value.specs.View.{abs}
use Rattle.domain_cells.specs.Views.{context_of, states_of}
use Rattle.domain_laws.specs.Calls as cell
use Rattle.domain_affine_laws.specs.Calls as relation
use Rattle.domain_affine_base.specs.Meaning.{affine}
use Rattle.domain_product_laws.specs.Domain.{may_pair}
use Rattle.analysis_query_laws.specs.Affine.{affine_tell}
use Rattle.analysis_query_laws.specs.Pairs.{pairs_tell}
use Rattle.program_common.specs.Outcomes.{answer_of}
use Rattle.program_base_tasks.proofs.Ties.{both_for, cells_tie, cells_told, gives_comes, own_cells, own_pair, own_relations, pair_tie, relations_tie, work_comes}
use Rattle.program_base_tasks.proofs.named.over_relations_and_cells.Goals as goal

pub returns-clause-gives : goal.returns-clause-gives
returns-clause-gives g c =
    let s = c.args.it.now in
    let spec = specification s.spec.now in
    gives_comes (λ d. IsTrue (relation.is_for d.first spec && (cell.is_for g.B.Base.algebra (states_of d.second) spec && may_pair affine g.B.Base.algebra)) × (Unit {0} × (context_of d.second ≡ g.B.NamedBase.shared)))
    (λ d. own_pair (own_relations d.first) (own_cells (λ x. parts (map abs x.items)) g.B.Base.algebra g.B.CutBase.cuts g.B.Base.CAP g.B.NamedBase.named g.B.BaseText.texts g.B.CellBase.readings (context_of d.second) (states_of d.second)))
    (λ d. pairs_tell (affine_tell d.first) (cells_told (λ x. parts (map abs x.items)) g.B.Base.algebra g.B.CutBase.cuts g.B.Base.CAP g.B.NamedBase.named g.B.BaseText.texts g.B.CellBase.readings (context_of d.second))) _
    (λ d made. let both = both_for (relation.is_for d.first spec) (cell.is_for g.B.Base.algebra (states_of d.second) spec) affine g.B.Base.algebra made.0 in pair_tie _ _ _ _ _ _ (relations_tie d.first spec both.0) (cells_tie (λ x. parts (map abs x.items)) g.B.Base.algebra g.B.CutBase.cuts g.B.Base.CAP g.B.NamedBase.named g.B.BaseText.texts g.B.CellBase.readings (context_of d.second) g.B.NamedBase.shared (states_of d.second) spec made.1.1 both.1))
    s.image.now (base_text c.args.base) (task_of spec s.image.now s.task) answer_of c.in_domain.result c.in_domain.ensures.gives

pub returns-clause-work : goal.returns-clause-work
returns-clause-work g c =
    let s = c.args.it.now in
    let spec = specification s.spec.now in
    work_comes (λ d. IsTrue (relation.is_for d.first spec && (cell.is_for g.B.Base.algebra (states_of d.second) spec && may_pair affine g.B.Base.algebra)) × (Unit {0} × (context_of d.second ≡ g.B.NamedBase.shared)))
    (λ d. own_pair (own_relations d.first) (own_cells (λ x. parts (map abs x.items)) g.B.Base.algebra g.B.CutBase.cuts g.B.Base.CAP g.B.NamedBase.named g.B.BaseText.texts g.B.CellBase.readings (context_of d.second) (states_of d.second)))
    (λ d. pairs_tell (affine_tell d.first) (cells_told (λ x. parts (map abs x.items)) g.B.Base.algebra g.B.CutBase.cuts g.B.Base.CAP g.B.NamedBase.named g.B.BaseText.texts g.B.CellBase.readings (context_of d.second))) _
    (λ d made. let both = both_for (relation.is_for d.first spec) (cell.is_for g.B.Base.algebra (states_of d.second) spec) affine g.B.Base.algebra made.0 in pair_tie _ _ _ _ _ _ (relations_tie d.first spec both.0) (cells_tie (λ x. parts (map abs x.items)) g.B.Base.algebra g.B.CutBase.cuts g.B.Base.CAP g.B.NamedBase.named g.B.BaseText.texts g.B.CellBase.readings (context_of d.second) g.B.NamedBase.shared (states_of d.second) spec made.1.1 both.1))
    s.image.now (base_text c.args.base) (task_of spec s.image.now s.task) answer_of c.in_domain.result c.in_domain.ensures.gives c.args.steps.now c.in_domain.new.steps c.in_domain.ensures.work

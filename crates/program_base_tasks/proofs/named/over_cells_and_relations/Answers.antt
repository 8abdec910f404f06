use Rattle.std.proofs.Common.{◌≡◌, map}
use Rattle.std.specs.Prelude.{◌&&◌, IsTrue}
use Rattle.support_command_line.specs.Bases.{base_text}
use Rattle.spec_ir.specs.Views.{specification}
use Rattle.program_domain_tasks.specs.Read.{task_of}
use Rattle.abstract_value_laws.specs.Abs.{parts}
use Rattle.abstract_value.specs.View.{abs}
use Rattle.domain_cells.specs.Views.{context_of, states_of}
use Rattle.domain_laws.specs.Calls as cell
use Rattle.domain_affine_laws.specs.Calls as relation
use Rattle.domain_affine_base.specs.Meaning.{affine}
use Rattle.domain_product_laws.specs.Domain.{may_pair}
use Rattle.analysis_query_laws.specs.Affine.{affine_tell}
use Rattle.analysis_query_laws.specs.Pairs.{pairs_tell}
use Rattle.program_common.specs.Outcomes.{answer_of}
use Rattle.program_base_tasks.proofs.Ties.{both_for, cells_tie, cells_told, gives_comes, own_cells, own_pair, own_relations, pair_tie, relations_tie, work_comes}
use Rattle.program_base_tasks.proofs.named.over_cells_and_relations.Goals as goal

pub returns-clause-gives : goal.returns-clause-gives
returns-clause-gives g c =
    let s = c.args.it.now in
    let spec = specification s.spec.now in
    gives_comes (λ d. IsTrue (cell.is_for g.A.Base.algebra (states_of d.first) spec && (relation.is_for d.second spec && may_pair g.A.Base.algebra affine)) × ((context_of d.first ≡ g.A.NamedBase.shared) × Unit {0}))
    (λ d. own_pair (own_cells (λ x. parts (map abs x.items)) g.A.Base.algebra g.A.CutBase.cuts g.A.Base.CAP g.A.NamedBase.named g.A.BaseText.texts g.A.CellBase.readings (context_of d.first) (states_of d.first)) (own_relations d.second))
    (λ d. pairs_tell (cells_told (λ x. parts (map abs x.items)) g.A.Base.algebra g.A.CutBase.cuts g.A.Base.CAP g.A.NamedBase.named g.A.BaseText.texts g.A.CellBase.readings (context_of d.first)) (affine_tell d.second)) _
    (λ d made. let both = both_for (cell.is_for g.A.Base.algebra (states_of d.first) spec) (relation.is_for d.second spec) g.A.Base.algebra affine made.0 in pair_tie _ _ _ _ _ _ (cells_tie (λ x. parts (map abs x.items)) g.A.Base.algebra g.A.CutBase.cuts g.A.Base.CAP g.A.NamedBase.named g.A.BaseText.texts g.A.CellBase.readings (context_of d.first) g.A.NamedBase.shared (states_of d.first) spec made.1.0 both.0) (relations_tie d.second spec both.1))
    s.image.now (base_text c.args.base) (task_of spec s.image.now s.task) answer_of c.in_domain.result c.in_domain.ensures.gives

pub returns-clause-work : goal.returns-clause-work
returns-clause-work g c =
    let s = c.args.it.now in
    let spec = specification s.spec.now in
    work_comes (λ d. IsTrue (cell.is_for g.A.Base.algebra (states_of d.first) spec && (relation.is_for d.second spec && may_pair g.A.Base.algebra affine)) × ((context_of d.first ≡ g.A.NamedBase.shared) × Unit {0}))
    (λ d. own_pair (own_cells (λ x. parts (map abs x.items)) g.A.Base.algebra g.A.CutBase.cuts g.A.Base.CAP g.A.NamedBase.named g.A.BaseText.texts g.A.CellBase.readings (context_of d.first) (states_of d.first)) (own_relations d.second))
    (λ d. pairs_tell (cells_told (λ x. parts (map abs x.items)) g.A.Base.algebra g.A.CutBase.cuts g.A.Base.CAP g.A.NamedBase.named g.A.BaseText.texts g.A.CellBase.readings (context_of d.first)) (affine_tell d.second)) _
    (λ d made. let both = both_for (cell.is_for g.A.Base.algebra (states_of d.first) spec) (relation.is_for d.second spec) g.A.Base.algebra affine made.0 in pair_tie _ _ _ _ _ _ (cells_tie (λ x. parts (map abs x.items)) g.A.Base.algebra g.A.CutBase.cuts g.A.Base.CAP g.A.NamedBase.named g.A.BaseText.texts g.A.CellBase.readings (context_of d.first) g.A.NamedBase.shared (states_of d.first) spec made.1.0 both.0) (relations_tie d.second spec both.1))
    s.image.now (base_text c.args.base) (task_of spec s.image.now s.task) answer_of c.in_domain.result c.in_domain.ensures.gives c.args.steps.now c.in_domain.new.steps c.in_domain.ensures.work

use Rattle.std.proofs.Common.{◌≡◌, ◌∙◌, length, map, ap, sym, subst, rules}
use Rattle.std.proofs.lemmas.List.{length-map}
use Rattle.syntax_parser.specs.View.{item, tree as tree_of}
use Rattle.spec_ir.specs.Views.{environment, signature_of}
use Rattle.spec_ir.specs.WellFormed.{IsWellFormed}
use Rattle.spec_declarations.specs.Declarations.{declared, HaveCases}
use Rattle.spec_declarations.specs.TypeNames.{types_of}
use Rattle.spec_declarations.specs.Types.{IsTypesFault, NoTypesFault}
use Rattle.spec_checker.specs.Check.{machine_passes}
use Rattle.spec_checker.proofs.Answering.{behind}
use Rattle.spec_checker.proofs.Making.{signatures_count}
use Rattle.spec_checker.proofs.Parsed.{have_cases}
use Rattle.spec_checker.proofs.passes.behind_names.Goals as goal

pub behind_types-requires-clause-well_formed : goal.behind_types-requires-clause-well_formed
behind_types-requires-clause-well_formed c =
    let is : environment c.in_ok-declarations.declarations ≡ declared (map item c.args.tree.now.items.items) = search rules in
    let items = ap (map item) c.deref.ensures.value in
    let known = subst (λ i. HaveCases i → IsWellFormed (declared i)) items c.in_ok-declarations.ensures.well_formed in
    subst IsWellFormed (sym is) (known (have_cases (tree_of c.args.tree.now) c.requires))

pub behind_types-requires-clause-count : goal.behind_types-requires-clause-count
behind_types-requires-clause-count c =
    let items = map item c.args.tree.now.items.items in
    let is : environment c.in_ok-declarations.declarations ≡ declared items = search rules in
    signatures_count (types_of items) items ∙ sym (ap (λ e. length e.funs) is) ∙ length-map c.in_ok-declarations.declarations.funs.items signature_of

pub returns : goal.returns
returns c =
    let t = tree_of c.args.tree.now in
    let w = c.args.wanted in
    let items = ap (map item) c.deref.ensures.value in
    let none = subst NoTypesFault items c.in_ok-declarations.ensures.answer in
    behind (record { fault = IsTypesFault t.items; none = NoTypesFault t.items }) (machine_passes w t) w t none c.behind_types.result c.behind_types.ensures

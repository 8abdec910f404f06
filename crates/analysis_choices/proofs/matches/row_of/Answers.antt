use Rattle.std.proofs.Common.{◌∙◌, ap, map, sym}
use Rattle.spec_match_compiler.specs.Decisions.{trees}
use Rattle.spec_match_compiler.specs.Views.{tree}
use Rattle.analysis_choices.specs.Matches as of
use Rattle.analysis_choices.proofs.Arms.{tree_OnCase}
use Rattle.analysis_choices.proofs.matches.row_of.Goals as goal

pub returns-in-OnCase : goal.returns-in-OnCase
returns-in-OnCase c =
    c.arm_row.ensures ∙ ap (λ ds. of.arm_row c.args.case c.in-OnCase.at.steps.items (trees (map tree ds))) c.deref.ensures.value
    ∙ sym (ap (of.row_of c.args.case) (ap tree c.in-OnCase.is ∙ tree_OnCase c.in-OnCase.at c.in-OnCase.arms))

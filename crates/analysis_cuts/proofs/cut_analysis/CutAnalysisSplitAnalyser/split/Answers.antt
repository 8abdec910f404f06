use Rattle.std.proofs.Common.{◌∙◌, ap, map}
use Rattle.std.specs.Prelude.{option_map}
use Rattle.fixpoint_cases.specs.Narrowing.{first_narrowing}
use Rattle.fixpoint_cases.specs.Pieces.{pieces}
use Rattle.analysis_choices.specs.Views.{choice}
use Rattle.analysis_transfer.specs.Analysis.{problem}
use Rattle.analysis_cuts.specs.Analysis.{split_of}
use Rattle.analysis_cuts.proofs.FirstChoices.{told_of_states}
use Rattle.analysis_cuts.proofs.cut_analysis.CutAnalysisSplitAnalyser.split.Goals as goal

pub returns-clause-value : goal.returns-clause-value
returns-clause-value g c =
    let it = c.args.self.now.of.now in
    let p = problem it in
    let D = g.D.Domain.elements it.domain.now in
    let piece = g.D.Domain.pieces it.domain.now in
    let view = g.D.Domain.view in
    let x = view c.args.x.now in
    told_of_states p.spec D (λ v. map view v.items) c.split_by_first.result _ (split_of p D piece c.args.at x)
    (ap (λ cs. option_map (λ k. pieces piece k.0 k.1 x) (first_narrowing D piece cs x)) (ap (map choice) c.deref.ensures.value ∙ c.in_ok-choices.ensures)) c.split_by_first.ensures.value

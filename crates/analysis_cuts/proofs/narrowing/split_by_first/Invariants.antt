use Rattle.std.proofs.Common.{◌≡◌, drop, map}
use Rattle.analysis_choices.specs.Views.{choice}
use Rattle.analysis_cuts.proofs.FirstChoices.{by_first}
use Rattle.analysis_cuts.proofs.narrowing.split_by_first.Given as goal

abbrev pub invariant-loop-by : goal.invariant-loop-by
invariant-loop-by g l =
    let D = g.D.Domain.elements l.domain in let piece = g.D.Domain.pieces l.domain in let x = g.D.Domain.view l.x in
    by_first D piece x (map choice l.choices) ≡ by_first D piece x (map choice (drop l.by-index l.choices))

use Rattle.std.proofs.Common.{◌≡◌, drop, map}
use Rattle.fixpoint_cases.specs.Narrowing.{none_absorbs}
use Rattle.analysis_cuts.proofs.narrowing.absorb.Given as goal

abbrev pub invariant-loop-element : goal.invariant-loop-element
invariant-loop-element g l =
    let D = g.D.Domain.elements l.domain in let piece = g.D.Domain.pieces l.domain in let view = g.D.Domain.view in
    none_absorbs D piece (map view l.elements) (view l.x) ≡ none_absorbs D piece (map view (drop l.element-index l.elements)) (view l.x)

use Rattle.std.proofs.Common.{ℕ, drop, map}
use Rattle.semantics_values.specs.declared.entry.KeyAt.{KeyAt}
use Rattle.base_trait.specs.Lists.{Each}
use Rattle.fixpoint_cases.specs.Pieces.{pieces, stretches}
use Rattle.analysis_cuts.proofs.Stretching.{AreSoFar}
use Rattle.analysis_cuts.proofs.pieces.pieces_between.Given as goal

abbrev pub invariant-loop-cut : goal.invariant-loop-cut
invariant-loop-cut g l =
    let D = g.D.Domain.elements l.domain in
    let piece = g.D.Domain.pieces l.domain in
    let view = g.D.Domain.view in
    let cell : ℕ × KeyAt = (l.by.place, l.by.key) in
    record {
      value : AreSoFar D piece cell (view l.x) (pieces piece cell l.cuts (view l.x)) (map view l.out.items) (stretches l.low (drop l.cut-index l.cuts));
      fits : Each D.fits (map view l.out.items);
    }

use Rattle.std.proofs.Common.{ℕ, [], ◌+◌, drop, get_or, map, refl, subst}
use Rattle.semantics_values.specs.declared.entry.KeyAt.{KeyAt}
use Rattle.std.proofs.Math.ListN.{drop_of_length-le}
use Rattle.fixpoint_cases.specs.Pieces.{pieces, stretches}
use Rattle.analysis_cuts.proofs.Stretching.{AreSoFar, last_stretch, one_stretch}
use Rattle.analysis_cuts.proofs.pieces.pieces_between.Goals as goal

pub loop-cut-init : goal.loop-cut-init
loop-cut-init g c = record { value = rw c.new-out.ensures.items ([], tt, refl); fits = rw c.new-out.ensures.items tt }

pub loop-cut-preserved : goal.loop-cut-preserved
loop-cut-preserved g c =
    let D = g.D.Domain.elements c.args.domain.now in
    let piece = g.D.Domain.pieces c.args.domain.now in
    let view = g.D.Domain.view in
    let by = c.args.by.now in
    let cuts = c.args.cuts.now in
    let cell : ℕ × KeyAt = (by.place, by.key) in
    let x = view c.args.x.now in
    record {
      value = one_stretch D piece cell x cuts c.loop-cut.cut-index c.loop-cut.low (get_or cuts c.loop-cut.cut-index 0) (pieces piece cell cuts x) (map view c.loop-cut.out.items) (map view c.push_piece.new.out.items)
          c.loop-cut-test.true refl c.loop-cut.invariant.value (rw (c.between-range.ensures.place, c.between-range.ensures.key, c.between-range.ensures.low, c.between-range.ensures.high, c.saturating_sub.ensures) at c.in_ok-push_piece.ensures.value);
      fits = c.in_ok-push_piece.ensures.fits;
    }

pub returns-clause-value : goal.returns-clause-value
returns-clause-value g c =
    let D = g.D.Domain.elements c.args.domain.now in
    let piece = g.D.Domain.pieces c.args.domain.now in
    let view = g.D.Domain.view in
    let by = c.args.by.now in
    let cuts = c.args.cuts.now in
    let cell : ℕ × KeyAt = (by.place, by.key) in
    let x = view c.args.x.now in
    let all = pieces piece cell cuts x in
    let out = map view c.loop-cut.out.items in
    last_stretch D piece cell x c.loop-cut.low all out (map view c.push_piece-2.new.out.items)
    (subst (λ l. AreSoFar D piece cell x all out (stretches c.loop-cut.low l)) (drop_of_length-le cuts c.loop-cut-test.false) c.loop-cut.invariant.value)
    (rw (c.between-range-2.ensures.place, c.between-range-2.ensures.key, c.between-range-2.ensures.low, c.between-range-2.ensures.high) at c.in_ok-push_piece-2.ensures.value)

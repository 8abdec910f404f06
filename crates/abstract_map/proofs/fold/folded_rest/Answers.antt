use Rattle.std.proofs.Common.{◌≡◌, ◌≤◌, ◌+◌, ◌-◌, length, take, ◌∙◌, arith}
use Rattle.std.proofs.lemmas.List.{length-take-le}
use Rattle.abstract_map.proofs.Folding.{fold_rest, take_back}
use Rattle.abstract_map.proofs.fold.folded_rest.Goals as goal

pub loop-place-preserved : goal.loop-place-preserved
loop-place-preserved g c =
    let es = c.args.cells.now in
    let n = c.loop-place.place in
    let one : 1 ≤ n = omega (arith, c.CAP.ensures, c.loop-place-test.true) in
    let next : n ≡ n - 1 + 1 = omega arith in
    let within : n - 1 ≤ length es = omega (arith, c.loop-place.invariant.within) in
    let back = take_back n (n - 1) c.at.result.0 c.at.result.1.now es next c.loop-place.invariant.within c.at.ensures in
    let more : g.B.Base.CAP ≤ length (take (n - 1) es) = omega (arith, c.CAP.ensures, c.loop-place-test.true, length-take-le (n - 1) es within) in
    record {
      within = within;
      fits = c.in_ok-rest.ensures.fits;
      rest = fold_rest g.B.Base.algebra c.args.ctx.now c.args.w g.B.Base.CAP c.loop-place.rest c.in_ok-rest.rest (take n es) (take (n - 1) es) (c.at.result.0, c.at.result.1.now) back more c.in_ok-rest.ensures.value
          ∙ c.loop-place.invariant.rest;
    }

use Rattle.std.proofs.Common.{arith}
use Rattle.abstract_map_laws.specs.Maps.{keys}
use Rattle.abstract_map_laws.proofs.Fitting.{length_keys}
use Rattle.domain_product_states.proofs.Alike.{all_taken, taken_more}
use Rattle.domain_product_states.proofs.together.list_alike.Goals as goal

pub loop-place-preserved : goal.loop-place-preserved
loop-place-preserved g c = record {
  count = c.loop-place.invariant.count;
  same = taken_more (keys c.args.x.now) (keys c.args.y.now) c.loop-place.place c.key_at.result c.key_at-in-loop-place.result c.key_at.ensures c.key_at-in-loop-place.ensures c.if-key_at.false c.loop-place.invariant.same;
}

pub returns : goal.returns
returns g c told =
    let end = c.listed-place-end.ensures in
    let past = c.loop-place-test.false in
    let count = c.loop-place.invariant.count in
    let xs = length_keys c.args.x.now.cells in
    let ys = length_keys c.args.y.now.cells in
    all_taken (keys c.args.x.now) (keys c.args.y.now) c.loop-place.place (omega (arith, end, past, xs)) (omega (arith, end, past, count, ys)) c.loop-place.invariant.same

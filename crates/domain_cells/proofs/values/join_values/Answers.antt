use Rattle.std.proofs.Common.{length, map}
use Rattle.abstract_map_laws.specs.Calls.{join_of as join_map}
use Rattle.abstract_value_laws.specs.Abs.{parts}
use Rattle.abstract_value_laws.specs.Calls.{join_parts}
use Rattle.abstract_value.specs.View.{abs}
use Rattle.abstract_value.proofs.Merging.{below_min, parts_done, parts_fit_here, parts_pushed}
use Rattle.domain_cells.proofs.values.join_values.Goals as goal

pub join-requires-clause-left : goal.join-requires-clause-left
join-requires-clause-left g c =
    let below = below_min c.loop-i.i c.min-i-end.result (length c.args.xs.now) (length c.args.ys.now) c.loop-i-test.true c.min-i-end.ensures in
    (parts_fit_here g.B.Base.algebra c.args.ctx.now g.B.Base.CAP c.args.xs.now c.loop-i.i c.index-xs-i.result c.index-xs-i.is below.0 c.loop-i.invariant.first).0

pub join-requires-clause-right : goal.join-requires-clause-right
join-requires-clause-right g c =
    let below = below_min c.loop-i.i c.min-i-end.result (length c.args.xs.now) (length c.args.ys.now) c.loop-i-test.true c.min-i-end.ensures in
    (parts_fit_here g.B.Base.algebra c.args.ctx.now g.B.Base.CAP c.args.ys.now c.loop-i.i c.index-ys-i.result c.index-ys-i.is below.1 c.loop-i.invariant.second).0

pub loop-i-preserved : goal.loop-i-preserved
loop-i-preserved g c =
    let b = g.B.Base.algebra in
    let ctx = c.args.ctx.now in
    let cap = g.B.Base.CAP in
    let xs = c.args.xs.now in
    let ys = c.args.ys.now in
    let i = c.loop-i.i in
    let below = below_min i c.min-i-end.result (length xs) (length ys) c.loop-i-test.true c.min-i-end.ensures in
    record {
      whole = parts_pushed (b.words.join ctx) (join_map b ctx cap) c.join.result xs ys i c.min-i-end.result c.index-xs-i.result c.index-ys-i.result c.loop-i.out.items c.in_ok-out-2.out.items (join_parts b ctx cap (parts (map abs xs)) (parts (map abs ys))) c.loop-i-test.true c.min-i-end.ensures c.index-xs-i.is c.index-ys-i.is c.in_ok-out-2.ensures c.join.ensures.value c.loop-i.invariant.whole;
      first = (parts_fit_here b ctx cap xs i c.index-xs-i.result c.index-xs-i.is below.0 c.loop-i.invariant.first).1;
      second = (parts_fit_here b ctx cap ys i c.index-ys-i.result c.index-ys-i.is below.1 c.loop-i.invariant.second).1;
    }

pub returns : goal.returns
returns g c =
    let b = g.B.Base.algebra in
    let ctx = c.args.ctx.now in
    let cap = g.B.Base.CAP in
    let xs = c.args.xs.now in
    let ys = c.args.ys.now in
    parts_done (b.words.join ctx) (join_map b ctx cap) xs ys c.loop-i.i c.min-i-end.result c.loop-i.out.items (join_parts b ctx cap (parts (map abs xs)) (parts (map abs ys))) c.loop-i-test.false c.min-i-end.ensures c.loop-i.invariant.whole

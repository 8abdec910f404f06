use Rattle.std.proofs.Common.{length, map}
use Rattle.abstract_map_laws.specs.Calls.{widen_of as widen_map}
use Rattle.abstract_value_laws.specs.Abs.{parts}
use Rattle.abstract_value_laws.specs.Calls.{widen_parts}
use Rattle.abstract_value.specs.View.{abs}
use Rattle.abstract_value.proofs.Merging.{below_min, parts_done, parts_fit_here, parts_pushed}
use Rattle.domain_cells.proofs.values.widen_values.Goals as goal

pub widen-requires-clause-old : goal.widen-requires-clause-old
widen-requires-clause-old g c =
    let below = below_min c.loop-i.i c.min-i-end.result (length c.args.olds.now) (length c.args.news.now) c.loop-i-test.true c.min-i-end.ensures in
    (parts_fit_here g.B.Base.algebra c.args.ctx.now g.B.Base.CAP c.args.olds.now c.loop-i.i c.index-olds-i.result c.index-olds-i.is below.0 c.loop-i.invariant.first).0

pub widen-requires-clause-new : goal.widen-requires-clause-new
widen-requires-clause-new g c =
    let below = below_min c.loop-i.i c.min-i-end.result (length c.args.olds.now) (length c.args.news.now) c.loop-i-test.true c.min-i-end.ensures in
    (parts_fit_here g.B.Base.algebra c.args.ctx.now g.B.Base.CAP c.args.news.now c.loop-i.i c.index-news-i.result c.index-news-i.is below.1 c.loop-i.invariant.second).0

pub loop-i-preserved : goal.loop-i-preserved
loop-i-preserved g c =
    let b = g.B.Base.algebra in
    let ctx = c.args.ctx.now in
    let cap = g.B.Base.CAP in
    let olds = c.args.olds.now in
    let news = c.args.news.now in
    let i = c.loop-i.i in
    let below = below_min i c.min-i-end.result (length olds) (length news) c.loop-i-test.true c.min-i-end.ensures in
    record {
      whole = parts_pushed (b.words.widen ctx) (widen_map b ctx) c.widen.result olds news i c.min-i-end.result c.index-olds-i.result c.index-news-i.result c.loop-i.out.items c.in_ok-out-2.out.items (widen_parts b ctx (parts (map abs olds)) (parts (map abs news))) c.loop-i-test.true c.min-i-end.ensures c.index-olds-i.is c.index-news-i.is c.in_ok-out-2.ensures c.widen.ensures.value c.loop-i.invariant.whole;
      first = (parts_fit_here b ctx cap olds i c.index-olds-i.result c.index-olds-i.is below.0 c.loop-i.invariant.first).1;
      second = (parts_fit_here b ctx cap news i c.index-news-i.result c.index-news-i.is below.1 c.loop-i.invariant.second).1;
    }

pub returns : goal.returns
returns g c =
    let b = g.B.Base.algebra in
    let ctx = c.args.ctx.now in
    let cap = g.B.Base.CAP in
    let olds = c.args.olds.now in
    let news = c.args.news.now in
    parts_done (b.words.widen ctx) (widen_map b ctx) olds news c.loop-i.i c.min-i-end.result c.loop-i.out.items (widen_parts b ctx (parts (map abs olds)) (parts (map abs news))) c.loop-i-test.false c.min-i-end.ensures c.loop-i.invariant.whole

use Rattle.std.proofs.Common.{◌<◌, map, subst}
use Rattle.abstract_value_laws.specs.Abs.{parts}
use Rattle.abstract_value_laws.specs.Calls.{absorbs_parts}
use Rattle.abstract_value.specs.View.{abs}
use Rattle.abstract_value.proofs.Absorption.{parts_both}
use Rattle.abstract_value.proofs.Both.{ended, failed, passed, uneven}
use Rattle.abstract_value.proofs.Merging.{parts_fit_here}
use Rattle.domain_cells.proofs.values.values_absorb.Goals as goal

pub returns-then-olds-news : goal.returns-then-olds-news
returns-then-olds-news g c = uneven (parts_both g.B.Base.algebra c.args.ctx.now) c.args.olds.now c.args.news.now c.if-olds-news.true

pub absorbs-requires-clause-old : goal.absorbs-requires-clause-old
absorbs-requires-clause-old g c = (parts_fit_here g.B.Base.algebra c.args.ctx.now g.B.Base.CAP c.args.olds.now c.loop-i.i c.index-olds-i.result c.index-olds-i.is c.loop-i-test.true c.loop-i.invariant.first).0

pub absorbs-requires-clause-new : goal.absorbs-requires-clause-new
absorbs-requires-clause-new g c =
    (parts_fit_here g.B.Base.algebra c.args.ctx.now g.B.Base.CAP c.args.news.now c.loop-i.i c.index-news-i.result c.index-news-i.is (subst (λ n. c.loop-i.i < n) c.loop-i.invariant.lengths c.loop-i-test.true) c.loop-i.invariant.second).0

pub returns-then-not-absorbs : goal.returns-then-not-absorbs
returns-then-not-absorbs g c =
    let b = g.B.Base.algebra in
    let ctx = c.args.ctx.now in
    failed (parts_both b ctx) c.args.olds.now c.args.news.now c.loop-i.i c.index-olds-i.result c.index-news-i.result (absorbs_parts b ctx (parts (map abs c.args.olds.now)) (parts (map abs c.args.news.now))) c.loop-i.invariant.lengths c.loop-i-test.true c.index-olds-i.is c.index-news-i.is
    c.if-not-absorbs.ensures c.loop-i.invariant.whole

pub loop-i-preserved : goal.loop-i-preserved
loop-i-preserved g c =
    let b = g.B.Base.algebra in
    let ctx = c.args.ctx.now in
    let cap = g.B.Base.CAP in
    record {
      lengths = c.loop-i.invariant.lengths;
      whole = passed (parts_both b ctx) c.args.olds.now c.args.news.now c.loop-i.i c.index-olds-i.result c.index-news-i.result (absorbs_parts b ctx (parts (map abs c.args.olds.now)) (parts (map abs c.args.news.now))) c.loop-i.invariant.lengths c.loop-i-test.true c.index-olds-i.is c.index-news-i.is
          c.if-not-absorbs.ensures c.loop-i.invariant.whole;
      first = (parts_fit_here b ctx cap c.args.olds.now c.loop-i.i c.index-olds-i.result c.index-olds-i.is c.loop-i-test.true c.loop-i.invariant.first).1;
      second = (parts_fit_here b ctx cap c.args.news.now c.loop-i.i c.index-news-i.result c.index-news-i.is (subst (λ n. c.loop-i.i < n) c.loop-i.invariant.lengths c.loop-i-test.true) c.loop-i.invariant.second).1;
    }

pub returns : goal.returns
returns g c =
    let b = g.B.Base.algebra in
    let ctx = c.args.ctx.now in
    ended (parts_both b ctx) c.args.olds.now c.args.news.now c.loop-i.i (absorbs_parts b ctx (parts (map abs c.args.olds.now)) (parts (map abs c.args.news.now))) c.loop-i.invariant.lengths c.loop-i-test.false c.loop-i.invariant.whole

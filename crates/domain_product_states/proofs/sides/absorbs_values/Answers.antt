use Rattle.std.proofs.Common.{◌<◌, map, subst}
use Rattle.abstract_value_laws.specs.Abs.{parts}
use Rattle.abstract_value_laws.specs.Calls.{absorbs_parts}
use Rattle.abstract_value.specs.View.{abs}
use Rattle.abstract_value.proofs.Both.{ended, failed, passed, uneven}
use Rattle.domain_product_laws.specs.Calls.{mapped_parts}
use Rattle.domain_product_states.proofs.Walks.{leaves_here, values_both, values_fit_here}
use Rattle.domain_product_states.proofs.sides.absorbs_values.Goals as goal

pub returns-then-olds-news : goal.returns-then-olds-news
returns-then-olds-news g c =
    uneven (values_both g.S.To.Base.algebra c.args.ctx.now g.S.Sides.old_word_of g.S.Sides.old_note_of g.S.Sides.new_word_of g.S.Sides.new_note_of) c.args.olds.now c.args.news.now c.if-olds-news.true

pub absorbs_value-requires-clause-leaf : goal.absorbs_value-requires-clause-leaf
absorbs_value-requires-clause-leaf g c =
    let i = c.loop-i.i in
    (leaves_here c.args.olds.now i c.index-olds-i.result c.index-olds-i.is c.loop-i-test.true c.loop-i.invariant.leaves).0

pub absorbs_value-requires-clause-old : goal.absorbs_value-requires-clause-old
absorbs_value-requires-clause-old g c =
    let B = g.S.To.Base.algebra in
    let cap = g.S.To.Base.CAP in
    let k = c.args.ctx.now in
    let i = c.loop-i.i in
    (values_fit_here B k cap g.S.Sides.old_word_of g.S.Sides.old_note_of c.args.olds.now i c.index-olds-i.result c.index-olds-i.is c.loop-i-test.true c.loop-i.invariant.first).0

pub absorbs_value-requires-clause-new : goal.absorbs_value-requires-clause-new
absorbs_value-requires-clause-new g c =
    let B = g.S.To.Base.algebra in
    let cap = g.S.To.Base.CAP in
    let k = c.args.ctx.now in
    let i = c.loop-i.i in
    (values_fit_here B k cap g.S.Sides.new_word_of g.S.Sides.new_note_of c.args.news.now i c.index-news-i.result c.index-news-i.is (subst (λ n. i < n) c.loop-i.invariant.lengths c.loop-i-test.true) c.loop-i.invariant.second).0

pub returns-then-not-absorbs_value : goal.returns-then-not-absorbs_value
returns-then-not-absorbs_value g c =
    let B = g.S.To.Base.algebra in
    let k = c.args.ctx.now in
    let olds = c.args.olds.now in
    let news = c.args.news.now in
    failed (values_both B k g.S.Sides.old_word_of g.S.Sides.old_note_of g.S.Sides.new_word_of g.S.Sides.new_note_of) olds news c.loop-i.i c.index-olds-i.result c.index-news-i.result
    (absorbs_parts B k (mapped_parts g.S.Sides.old_word_of g.S.Sides.old_note_of (parts (map abs olds))) (mapped_parts g.S.Sides.new_word_of g.S.Sides.new_note_of (parts (map abs news)))) c.loop-i.invariant.lengths c.loop-i-test.true c.index-olds-i.is c.index-news-i.is c.if-not-absorbs_value.ensures c.loop-i.invariant.whole

pub loop-i-preserved : goal.loop-i-preserved
loop-i-preserved g c =
    let B = g.S.To.Base.algebra in
    let cap = g.S.To.Base.CAP in
    let k = c.args.ctx.now in
    let i = c.loop-i.i in
    let olds = c.args.olds.now in
    let news = c.args.news.now in
    record {
      lengths = c.loop-i.invariant.lengths;
      leaves = (leaves_here olds i c.index-olds-i.result c.index-olds-i.is c.loop-i-test.true c.loop-i.invariant.leaves).1;
      whole = passed (values_both B k g.S.Sides.old_word_of g.S.Sides.old_note_of g.S.Sides.new_word_of g.S.Sides.new_note_of) olds news i c.index-olds-i.result c.index-news-i.result
          (absorbs_parts B k (mapped_parts g.S.Sides.old_word_of g.S.Sides.old_note_of (parts (map abs olds))) (mapped_parts g.S.Sides.new_word_of g.S.Sides.new_note_of (parts (map abs news)))) c.loop-i.invariant.lengths c.loop-i-test.true c.index-olds-i.is c.index-news-i.is c.if-not-absorbs_value.ensures c.loop-i.invariant.whole;
      first = (values_fit_here B k cap g.S.Sides.old_word_of g.S.Sides.old_note_of olds i c.index-olds-i.result c.index-olds-i.is c.loop-i-test.true c.loop-i.invariant.first).1;
      second = (values_fit_here B k cap g.S.Sides.new_word_of g.S.Sides.new_note_of news i c.index-news-i.result c.index-news-i.is (subst (λ n. i < n) c.loop-i.invariant.lengths c.loop-i-test.true) c.loop-i.invariant.second).1;
    }

pub returns : goal.returns
returns g c =
    let B = g.S.To.Base.algebra in
    let k = c.args.ctx.now in
    let olds = c.args.olds.now in
    let news = c.args.news.now in
    ended (values_both B k g.S.Sides.old_word_of g.S.Sides.old_note_of g.S.Sides.new_word_of g.S.Sides.new_note_of) olds news c.loop-i.i
    (absorbs_parts B k (mapped_parts g.S.Sides.old_word_of g.S.Sides.old_note_of (parts (map abs olds))) (mapped_parts g.S.Sides.new_word_of g.S.Sides.new_note_of (parts (map abs news)))) c.loop-i.invariant.lengths c.loop-i-test.false c.loop-i.invariant.whole

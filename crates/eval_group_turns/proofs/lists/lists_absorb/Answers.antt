use Rattle.std.proofs.Common.{◌≤◌, min, length, map, sym, arith, rules}
use Rattle.std.proofs.lemmas.List.{length-map}
use Rattle.abstract_value_laws.specs.Calls.{absorbs_of}
use Rattle.abstract_value.specs.View.{abs}
use Rattle.eval_group_turns.proofs.Items.{absorb_end, absorb_next, absorb_stop, drop_seen, item_seen, part_fits}
use Rattle.eval_group_turns.proofs.lists.lists_absorb.Goals as goal

pub absorbs-requires-clause-old : goal.absorbs-requires-clause-old
absorbs-requires-clause-old g c =
    part_fits g.B.Base.algebra c.args.ctx.now g.B.Base.CAP (map abs c.args.xs.now) c.loop-i.i (abs c.index-xs-i.result) c.requires.old (item_seen abs c.args.xs.now c.loop-i.i c.index-xs-i.result (omega (arith, c.loop-i-test.true)) c.index-xs-i.is)

pub absorbs-requires-clause-new : goal.absorbs-requires-clause-new
absorbs-requires-clause-new g c =
    part_fits g.B.Base.algebra c.args.ctx.now g.B.Base.CAP (map abs c.args.ys.now) c.loop-i.i (abs c.index-ys-i.result) c.requires.new (item_seen abs c.args.ys.now c.loop-i.i c.index-ys-i.result (omega (arith, c.loop-i-test.true)) c.index-ys-i.is)

pub returns-then-not-absorbs : goal.returns-then-not-absorbs
returns-then-not-absorbs g c =
    absorb_stop (absorbs_of g.B.Base.algebra c.args.ctx.now) (map abs c.args.xs.now) (map abs c.args.ys.now) c.loop-i.i (abs c.index-xs-i.result) (abs c.index-ys-i.result) _
    (drop_seen abs c.args.xs.now c.loop-i.i c.index-xs-i.result (omega (arith, c.loop-i-test.true)) c.index-xs-i.is) (drop_seen abs c.args.ys.now c.loop-i.i c.index-ys-i.result (omega (arith, c.loop-i-test.true)) c.index-ys-i.is)
    (sym c.if-not-absorbs.ensures) c.loop-i.invariant

pub loop-i-preserved : goal.loop-i-preserved
loop-i-preserved g c =
    absorb_next (absorbs_of g.B.Base.algebra c.args.ctx.now) (map abs c.args.xs.now) (map abs c.args.ys.now) c.loop-i.i (abs c.index-xs-i.result) (abs c.index-ys-i.result) _
    (drop_seen abs c.args.xs.now c.loop-i.i c.index-xs-i.result (omega (arith, c.loop-i-test.true)) c.index-xs-i.is) (drop_seen abs c.args.ys.now c.loop-i.i c.index-ys-i.result (omega (arith, c.loop-i-test.true)) c.index-ys-i.is)
    (sym c.if-not-absorbs.ensures) c.loop-i.invariant

pub returns : goal.returns
returns g c =
    let past : min (length c.args.xs.now) (length c.args.ys.now) ≤ c.loop-i.i = search rules in
    absorb_end (absorbs_of g.B.Base.algebra c.args.ctx.now) (map abs c.args.xs.now) (map abs c.args.ys.now) c.loop-i.i _ (simp length-map past) c.loop-i.invariant

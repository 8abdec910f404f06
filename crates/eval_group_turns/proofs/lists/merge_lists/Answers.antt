use Rattle.std.proofs.Common.{◌+◌, map, drop, ap, ◌∙◌}
use Rattle.abstract_value.specs.View.{abs}
use Rattle.abstract_value.specs.Ways.{merged}
use Rattle.abstract_semantics.specs.Terms.{merge_all}
use Rattle.eval_group_turns.specs.Merging as step
use Rattle.eval_group_turns.proofs.Items.{drop_seen, item_seen, merge_here, one_more, other_fits, part_fits, seen_push}
use Rattle.eval_group_turns.proofs.lists.merge_lists.Goals as goal

pub merged_with-requires-clause-left : goal.merged_with-requires-clause-left
merged_with-requires-clause-left g c =
    part_fits g.B.Base.algebra c.args.ctx.now g.B.Base.CAP (map abs c.args.xs.now) c.loop-i.i (abs c.index-xs-i.result) c.requires.left (item_seen abs c.args.xs.now c.loop-i.i c.index-xs-i.result c.loop-i-test.true c.index-xs-i.is)

pub merged_with-requires-clause-right : goal.merged_with-requires-clause-right
merged_with-requires-clause-right g c =
    other_fits g.B.Base.algebra c.args.ctx.now g.B.Base.CAP (map abs c.args.ys.now) c.loop-i.i c.requires.right (λ y. abs y.now) c.other_at.result c.other_at.ensures

pub loop-i-preserved : goal.loop-i-preserved
loop-i-preserved g c =
    let f = merged g.B.Base.algebra c.args.ctx.now g.B.Base.CAP c.args.way in
    let X = map abs c.args.xs.now in
    let Y = map abs c.args.ys.now in
    let z = c.in_ok-merged_with.field-0 in
    one_more (merge_all f X Y) (map abs c.loop-i.out.items) (map abs c.put.new.list.items) (merge_all f (drop c.loop-i.i X) (drop c.loop-i.i Y)) (merge_all f (drop (c.loop-i.i + 1) X) (drop (c.loop-i.i + 1) Y)) (abs z)
    (merge_here f X Y c.loop-i.i (abs c.index-xs-i.result) (abs z) (drop_seen abs c.args.xs.now c.loop-i.i c.index-xs-i.result c.loop-i-test.true c.index-xs-i.is)
    (c.in_ok-merged_with.ensures ∙ ap (step.merged_with f (abs c.index-xs-i.result)) c.other_at.ensures))
    (ap (map abs) c.in_ok-put.ensures.items ∙ seen_push abs c.loop-i.out.items z) c.loop-i.invariant

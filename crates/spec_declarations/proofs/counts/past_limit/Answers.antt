use Rattle.std.proofs.Common.{◌∷◌, ◌++◌, [], None, get_or, map, ap, ◌∙◌}
use Rattle.spec_declarations.specs.Counts.{is_past}
use Rattle.spec_declarations.proofs.Pushes.{next_all, next_more, other_default}
use Rattle.spec_declarations.proofs.counts.past_limit.Goals as goal

pub loop-count-preserved : goal.loop-count-preserved
loop-count-preserved c =
    next_more is_past c.loop-count.large.items c.push.new.self.items c.args.counts.now c.loop-count.count-index (get_or c.args.counts.now c.loop-count.count-index None) (map is_past c.args.counts.now) c.loop-count-test.true
    (other_default c.args.counts.now c.loop-count.count-index None (get_or c.args.counts.now c.loop-count.count-index None) c.loop-count-test.true)
    (c.in_ok-push.ensures.items ∙ ap (λ y. c.loop-count.large.items ++ y ∷ []) c.is_past.ensures) c.loop-count.invariant

pub returns : goal.returns
returns c = next_all is_past c.loop-count.large.items c.args.counts.now c.loop-count.count-index (map is_past c.args.counts.now) c.loop-count-test.false c.loop-count.invariant

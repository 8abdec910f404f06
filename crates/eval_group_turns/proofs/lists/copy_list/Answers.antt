use Rattle.std.proofs.Common.{ap, ◌∙◌}
use Rattle.abstract_value.specs.View.{abs}
use Rattle.abstract_value.proofs.Merging.{seen_more}
use Rattle.eval_group_turns.proofs.lists.copy_list.Goals as goal

pub loop-x-preserved : goal.loop-x-preserved
loop-x-preserved g c =
    seen_more (λ v. abs v) c.loop-x.out.items c.put.new.list.items c.in_ok-copy.field-0 c.args.xs.now c.loop-x.x-index c.x-item.result c.loop-x-test.true c.loop-x.invariant c.in_ok-put.ensures.items
    (c.in_ok-copy.ensures ∙ ap (λ v. abs v) c.x-item.is)

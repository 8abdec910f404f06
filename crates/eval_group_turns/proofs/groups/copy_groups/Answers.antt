use Rattle.std.proofs.Common.{ap, ◌∙◌}
use Rattle.std.specs.Prelude.{option_map}
use Rattle.abstract_value.proofs.Merging.{seen_more}
use Rattle.eval_group_turns.specs.Views.{all_abs}
use Rattle.eval_group_turns.proofs.groups.copy_groups.Goals as goal

pub loop-xs-preserved : goal.loop-xs-preserved
loop-xs-preserved g c =
    seen_more (option_map all_abs) c.loop-xs.out.items c.put.new.list.items c.in_ok-copy_arguments.field-0 c.args.args.now c.loop-xs.xs-index c.xs-item.result c.loop-xs-test.true c.loop-xs.invariant c.in_ok-put.ensures.items
    (c.in_ok-copy_arguments.ensures ∙ ap (option_map all_abs) c.xs-item.is)

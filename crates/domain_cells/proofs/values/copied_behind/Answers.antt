use Rattle.std.proofs.Common.{◌++◌, map, ap, ◌∙◌}
use Rattle.abstract_map_laws.proofs.Joining.{take_all}
use Rattle.abstract_value.specs.View.{abs}
use Rattle.domain_cells.proofs.Lists.{copy_pushed}
use Rattle.domain_cells.proofs.values.copied_behind.Goals as goal

pub loop-value-preserved : goal.loop-value-preserved
loop-value-preserved g c =
    copy_pushed (λ v. abs v) (map abs c.args.out.items) c.copy.result c.loop-value.out.items c.in_ok-out.out.items c.args.values.now c.loop-value.value-index c.value-item.result c.value-item.is c.loop-value-test.true c.in_ok-out.ensures c.copy.ensures c.loop-value.invariant

pub returns : goal.returns
returns g c = c.loop-value.invariant ∙ ap (λ l. map abs c.args.out.items ++ map abs l) (take_all c.loop-value.value-index c.args.values.now c.loop-value-test.false)

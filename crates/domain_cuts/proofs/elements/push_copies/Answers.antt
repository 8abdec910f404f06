use Rattle.std.proofs.Common.{◌++◌, ◌∙◌, ap, map, sym, append-nil}
use Rattle.std.proofs.lemmas.List.{take_all}
use Rattle.abstract_value.specs.View.{abs}
use Rattle.domain_cuts.proofs.Placing.{added_more}
use Rattle.domain_cuts.proofs.elements.push_copies.Goals as goal

pub loop-value-init : goal.loop-value-init
loop-value-init g c = sym (append-nil (map abs c.args.out.now.items))

pub loop-value-preserved : goal.loop-value-preserved
loop-value-preserved g c =
    added_more (λ v. abs v) (map abs c.args.out.now.items) c.loop-value.out.items c.put.new.list.items c.in_ok-copy.field-0 c.args.values.now c.loop-value.value-index c.value-item.result c.loop-value-test.true c.value-item.is
    c.loop-value.invariant c.in_ok-put.ensures.items c.in_ok-copy.ensures

pub returns : goal.returns
returns g c = c.loop-value.invariant ∙ ap (λ l. map abs c.args.out.now.items ++ map abs l) (take_all c.loop-value.value-index c.args.values.now c.loop-value-test.false)

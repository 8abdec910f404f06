use Rattle.std.proofs.Common.{◌++◌, filter_map, map, ap, ◌∙◌}
use Rattle.spec_declarations.specs.Leaves.{data_number, held}
use Rattle.spec_declarations.proofs.Pushes.{flat_all, flat_more}
use Rattle.spec_declarations.proofs.contents.datatypes_in_datatype.Goals as goal

pub loop-fields-preserved : goal.loop-fields-preserved
loop-fields-preserved c =
    flat_more (filter_map data_number) (λ k. k.items) c.loop-fields.held.items c.hold.new.held.items c.args.cases.now c.loop-fields.fields-index c.fields-item.result (held (map (λ k. k.items) c.args.cases.now)) c.loop-fields-test.true c.fields-item.is
    (c.in_ok-hold.ensures ∙ ap (λ fs. c.loop-fields.held.items ++ filter_map data_number fs) c.deref.ensures.value) c.loop-fields.invariant

pub returns : goal.returns
returns c = flat_all (filter_map data_number) (λ k. k.items) c.loop-fields.held.items c.args.cases.now c.loop-fields.fields-index (held (map (λ k. k.items) c.args.cases.now)) c.loop-fields-test.false c.loop-fields.invariant

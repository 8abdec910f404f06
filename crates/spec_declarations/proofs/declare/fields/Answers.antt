use Rattle.std.proofs.Common.{map}
use Rattle.spec_declarations.specs.Declarations.{field_in}
use Rattle.spec_declarations.proofs.Pushes.{next_all, next_pushed}
use Rattle.spec_declarations.proofs.declare.fields.Goals as goal

pub loop-f-preserved : goal.loop-f-preserved
loop-f-preserved c =
    let names = c.args.names.now in
    next_pushed (field_in names) c.field.result c.loop-f.declared.items c.in_ok-declared.declared.items c.args.fields.now c.loop-f.f-index c.f-item.result (map (field_in names) c.args.fields.now) c.loop-f-test.true c.f-item.is c.in_ok-declared.ensures c.field.ensures c.loop-f.invariant

pub returns : goal.returns
returns c = next_all (field_in c.args.names.now) c.loop-f.declared.items c.args.fields.now c.loop-f.f-index (map (field_in c.args.names.now) c.args.fields.now) c.loop-f-test.false c.loop-f.invariant

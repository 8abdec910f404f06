use Rattle.std.proofs.Common.{◌∷◌, ◌++◌, [], map, ap, ◌∙◌}
use Rattle.spec_declarations.specs.Declarations.{type_in}
use Rattle.spec_declarations.proofs.Pushes.{next_all, next_more}
use Rattle.spec_declarations.proofs.declare.parameters.Goals as goal

pub loop-f-preserved : goal.loop-f-preserved
loop-f-preserved c =
    let names = c.args.names.now in
    next_more (λ p. type_in names p.ty) c.loop-f.types.items c.push.new.self.items c.args.fields.now c.loop-f.f-index c.f-item.result (map (λ p. type_in names p.ty) c.args.fields.now) c.loop-f-test.true c.f-item.is
    (c.in_ok-push.ensures.items ∙ ap (λ y. c.loop-f.types.items ++ y ∷ []) c.type_in.ensures) c.loop-f.invariant

pub returns : goal.returns
returns c = next_all (λ p. type_in c.args.names.now p.ty) c.loop-f.types.items c.args.fields.now c.loop-f.f-index (map (λ p. type_in c.args.names.now p.ty) c.args.fields.now) c.loop-f-test.false c.loop-f.invariant

use Rattle.std.proofs.Common.{◌∷◌, ◌++◌, [], map, ap, ◌∙◌}
use Rattle.spec_declarations.specs.TypeNames.{type_named}
use Rattle.spec_declarations.proofs.Pushes.{next_all, next_more}
use Rattle.spec_declarations.proofs.datatype_meanings.made_of_fields.Goals as goal

pub loop-f-preserved : goal.loop-f-preserved
loop-f-preserved c =
    let names = c.args.names.now in
    next_more (λ f. type_named names f.ty.text) c.loop-f.meanings.items c.push.new.self.items c.args.fields.now c.loop-f.f-index c.f-item.result (map (λ f. type_named names f.ty.text) c.args.fields.now) c.loop-f-test.true c.f-item.is
    (c.in_ok-push.ensures.items ∙ ap (λ y. c.loop-f.meanings.items ++ y ∷ []) c.meaning.ensures) c.loop-f.invariant

pub returns : goal.returns
returns c = next_all (λ f. type_named c.args.names.now f.ty.text) c.loop-f.meanings.items c.args.fields.now c.loop-f.f-index (map (λ f. type_named c.args.names.now f.ty.text) c.args.fields.now) c.loop-f-test.false c.loop-f.invariant

use Rattle.std.proofs.Common.{◌≡◌, IfOk, map, subst}
use Rattle.syntax_parser.specs.View.{constructor}
use Rattle.spec_declarations.specs.TypeNames.{type_named}
use Rattle.spec_declarations.proofs.Pushes.{pushed_all, pushed_more}
use Rattle.spec_declarations.proofs.datatype_meanings.made_constructors.Goals as goal

pub loop-c-preserved : goal.loop-c-preserved
loop-c-preserved c =
    let names = c.args.names.now in
    let here = subst (λ fs. IfOk c.made_of_fields.result (λ r. r.items ≡ map (λ f. type_named names f.ty.text) fs)) c.deref.ensures.value c.made_of_fields.ensures in
    pushed_more (λ k. k.items) (λ k. map (λ f. type_named names f.ty.text) k.fields) constructor c.made_of_fields.result c.loop-c.made.items c.in_ok-made.made.items c.args.cases.now c.loop-c.c-index c.c-item.result
    (map (λ k. map (λ f. type_named names f.ty.text) k.fields) (map constructor c.args.cases.now)) c.loop-c-test.true c.c-item.is c.in_ok-made.ensures here c.loop-c.invariant

pub returns : goal.returns
returns c =
    let names = c.args.names.now in
    pushed_all (λ k. k.items) (λ k. map (λ f. type_named names f.ty.text) k.fields) constructor c.loop-c.made.items c.args.cases.now c.loop-c.c-index (map (λ k. map (λ f. type_named names f.ty.text) k.fields) (map constructor c.args.cases.now)) c.loop-c-test.false c.loop-c.invariant

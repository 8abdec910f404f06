use Rattle.std.proofs.Common.{◌≡◌, IfOk, map, subst}
use Rattle.syntax_parser.specs.View.{constructor, datatype}
use Rattle.spec_declarations.specs.Leaves as leaves
use Rattle.spec_declarations.specs.TypeNames.{type_named}
use Rattle.spec_declarations.proofs.Pushes.{pushed_all, pushed_more}
use Rattle.spec_declarations.proofs.datatype_meanings.made_datatypes.Goals as goal

pub loop-d-preserved : goal.loop-d-preserved
loop-d-preserved c =
    let names = c.args.names.now in
    let here = subst (λ cs. IfOk c.made_constructors.result (λ r. map (λ k. k.items) r.items ≡ map (λ k. map (λ f. type_named names f.ty.text) k.fields) (map constructor cs))) c.deref.ensures.value c.made_constructors.ensures in
    pushed_more (λ d. map (λ k. k.items) d.items) (leaves.made names) (λ d. datatype d.now) c.made_constructors.result c.loop-d.all.items c.in_ok-all.all.items c.args.datas.now c.loop-d.d-index c.d-item.result
    (map (leaves.made names) (map (λ d. datatype d.now) c.args.datas.now)) c.loop-d-test.true c.d-item.is c.in_ok-all.ensures here c.loop-d.invariant

pub returns : goal.returns
returns c =
    let names = c.args.names.now in
    pushed_all (λ d. map (λ k. k.items) d.items) (leaves.made names) (λ d. datatype d.now) c.loop-d.all.items c.args.datas.now c.loop-d.d-index (map (leaves.made names) (map (λ d. datatype d.now) c.args.datas.now)) c.loop-d-test.false c.loop-d.invariant

use Rattle.std.proofs.Common.{◌≡◌, IfOk, map, subst}
use Rattle.spec_declarations.specs.Leaves as leaves
use Rattle.spec_declarations.specs.Views.{meanings}
use Rattle.spec_declarations.proofs.Pushes.{pushed_all, pushed_more}
use Rattle.spec_declarations.proofs.contents.datatypes_in_fields.Goals as goal

pub loop-cases-preserved : goal.loop-cases-preserved
loop-cases-preserved c =
    let here = subst (λ cs. IfOk c.datatypes_in_datatype.result (λ r. r.items ≡ leaves.held (map (λ k. k.items) cs))) c.deref.ensures.value c.datatypes_in_datatype.ensures in
    pushed_more (λ row. row.items) leaves.held (λ d. map (λ k. k.items) d.items) c.datatypes_in_datatype.result c.loop-cases.graph.items c.in_ok-graph.graph.items c.args.datas.now c.loop-cases.cases-index c.cases-item.result (map leaves.held (meanings c.args.datas.now))
    c.loop-cases-test.true c.cases-item.is c.in_ok-graph.ensures here c.loop-cases.invariant

pub returns : goal.returns
returns c = pushed_all (λ row. row.items) leaves.held (λ d. map (λ k. k.items) d.items) c.loop-cases.graph.items c.args.datas.now c.loop-cases.cases-index (map leaves.held (meanings c.args.datas.now)) c.loop-cases-test.false c.loop-cases.invariant

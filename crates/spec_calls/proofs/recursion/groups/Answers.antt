use Rattle.std.proofs.Common.{◌≡◌, ◌<◌, Some, None, true, length, map, option_map, rules, arith, ap, ◌∙◌, refl}
use Rattle.std.proofs.lemmas.List.{length-map}
use Rattle.std.proofs.lemmas.Option.{slice_get-map, slice_get_read}
use Rattle.support_reachability.specs.Table.{IsTableOf, table}
use Rattle.spec_ir.specs.Views.{term}
use Rattle.spec_calls.specs.Calls.{calls, call_graph}
use Rattle.spec_calls.specs.Told.{first_inside}
use Rattle.spec_calls.proofs.Told.{graph_of, accepted, refused, are_groups, is_fault, on_ok, if_ok}
use Rattle.spec_calls.proofs.Ranked.{calls_have_ranks}
use Rattle.spec_calls.proofs.recursion.groups.Goals as goal

pub returns-in-None-clause-accepted : goal.returns-in-None-clause-accepted
returns-in-None-clause-accepted c =
    let bodies = map (λ t. term t.now) c.args.bodies.now in
    let all : map (λ cs. cs.items) c.in_ok-all.all.items ≡ map (calls true) bodies = c.in_ok-all.ensures.calls in
    let graph = graph_of bodies _ _ all (rw c.deref.ensures.value at c.in_ok-graph.ensures) in
    let right : IsTableOf (call_graph bodies) (table c.in_ok-table.table) = rw (c.deref-2.ensures.value, graph) at c.in_ok-table.ensures in
    let none : first_inside (table c.in_ok-table.table) 0 (map (calls true) bodies) ≡ None = search rules in
    on_ok c.all_groups.result (accepted bodies (table c.in_ok-table.table) right none)

pub returns-in-None-clause-groups : goal.returns-in-None-clause-groups
returns-in-None-clause-groups c =
    let bodies = map (λ t. term t.now) c.args.bodies.now in
    let all : map (λ cs. cs.items) c.in_ok-all.all.items ≡ map (calls true) bodies = c.in_ok-all.ensures.calls in
    let graph = graph_of bodies _ _ all (rw c.deref.ensures.value at c.in_ok-graph.ensures) in
    let right : IsTableOf (call_graph bodies) (table c.in_ok-table.table) = rw (c.deref-2.ensures.value, graph) at c.in_ok-table.ensures in
    let count : length bodies ≡ length c.args.bodies.now = length-map c.args.bodies.now (λ t. term t.now) in
    if_ok c.all_groups.result c.all_groups.ensures.groups (λ r told. are_groups bodies (table c.in_ok-table.table) right (length c.args.bodies.now) r.items count told)

pub returns-in-None-clause-ranks : goal.returns-in-None-clause-ranks
returns-in-None-clause-ranks c = on_ok c.all_groups.result (calls_have_ranks (map (λ t. term t.now) c.args.bodies.now))

pub returns-clause-fault : goal.returns-clause-fault
returns-clause-fault c =
    let bodies = map (λ t. term t.now) c.args.bodies.now in
    let names = map (λ n. n.now) c.args.names.now in
    let f = c.in-Some.f in
    let all : map (λ cs. cs.items) c.in_ok-all.all.items ≡ map (calls true) bodies = c.in_ok-all.ensures.calls in
    let graph = graph_of bodies _ _ all (rw c.deref.ensures.value at c.in_ok-graph.ensures) in
    let right : IsTableOf (call_graph bodies) (table c.in_ok-table.table) = rw (c.deref-2.ensures.value, graph) at c.in_ok-table.ensures in
    let some : first_inside (table c.in_ok-table.table) 0 (map (calls true) bodies) ≡ Some f = search rules in
    let bad = refused bodies (table c.in_ok-table.table) right f some in
    let bound : f < length c.args.names.now = omega (arith, bad.below, length-map c.args.bodies.now (λ t. term t.now), c.requires) in
    let here = slice_get-map (λ n. n.now) c.args.names.now f ∙ ap (option_map (λ n. n.now)) (slice_get_read c.args.names.now (length c.args.names.now) f c.index-names-f.result refl bound c.index-names-f.is) in
    is_fault names bodies (table c.in_ok-table.table) right f c.index-names-f.result.now c.fault_at.result bad here c.fault_at.ensures

use Rattle.std.proofs.Common.{◌≡◌, ◌<◌, false, replicate, [], ℕ, length, map, subst, sym, ap, arith, rules}
use Rattle.std.proofs.lemmas.List.{length_push, length-map, length-replicate, nil_from_length}
use Rattle.support_reachability.specs.Marks.{AreMarked, IsMarked}
use Rattle.support_reachability.proofs.Searching.{IsSearch, search_begins, search_goes_on, search_ends, none_is_marked, row_is, is_node}
use Rattle.support_reachability.proofs.search.reached_from.Goals as goal

pub loop-node-init : goal.loop-node-init
loop-node-init c =
    let graph = map (λ row. row.items) c.args.graph.now in
    let old = c.in_ok-marks.marks.items in
    let made : old ≡ replicate (length c.args.graph.now) false = search rules in
    let row = row_is c.args.graph.now c.args.from c.index-graph-from.result c.deref.result.now (search rules) c.index-graph-from.is (search rules) in
    let new_stack : c.new-stack.result.items ≡ [] = search rules in
    search_begins graph c.args.from old _ _ (search (rules, length-map, length-replicate)) (subst (λ m. (a : ℕ) → IsMarked m a → ⊥) (sym made) (none_is_marked (length c.args.graph.now)))
    (subst (λ r. AreMarked r (length r) old c.visit_all.new.marks.items [] c.visit_all.new.stack.items) row
    (subst (λ s. AreMarked c.deref.result.now (length c.deref.result.now) old c.visit_all.new.marks.items s c.visit_all.new.stack.items) new_stack
    c.in_ok-visit_all.ensures))

pub loop-node-preserved : goal.loop-node-preserved
loop-node-preserved c =
    let graph = map (λ row. row.items) c.args.graph.now in
    let node = c.in-Some.node in
    let old = c.loop-node.marks.items in
    let rest = c.pop.new.self.items in
    let here = subst (IsSearch graph c.args.from old) c.in-Some.ensures.items c.loop-node.invariant in
    let row = row_is c.args.graph.now node c.index-graph-node.result c.deref-in-Some.result.now (omega (arith, is_node graph c.args.from old rest node here, length-map c.args.graph.now (λ row. row.items))) c.index-graph-node.is (search rules) in
    search_goes_on graph c.args.from node old _ rest _ here
    (subst (λ r. AreMarked r (length r) old c.visit_all-in-Some.new.marks.items rest c.visit_all-in-Some.new.stack.items) row c.in_ok-visit_all-2.ensures)

pub loop-node-smaller : goal.loop-node-smaller
loop-node-smaller c =
    let rest = c.pop.new.self.items in
    let done = c.in_ok-visit_all-2.ensures in
    omega (arith, done.weight, length_push rest c.in-Some.node, ap length c.in-Some.ensures.items)

pub bounds-graph-node : goal.bounds-graph-node
bounds-graph-node c =
    let graph = map (λ row. row.items) c.args.graph.now in
    let rest = c.pop.new.self.items in
    let here = subst (IsSearch graph c.args.from c.loop-node.marks.items) c.in-Some.ensures.items c.loop-node.invariant in
    omega (arith, is_node graph c.args.from c.loop-node.marks.items rest c.in-Some.node here, length-map c.args.graph.now (λ row. row.items))

pub offset_bounds-graph-node : goal.offset_bounds-graph-node
offset_bounds-graph-node c =
    let graph = map (λ row. row.items) c.args.graph.now in
    let rest = c.pop.new.self.items in
    let here = subst (IsSearch graph c.args.from c.loop-node.marks.items) c.in-Some.ensures.items c.loop-node.invariant in
    let inside : c.in-Some.node < length c.args.graph.now = omega (arith, is_node graph c.args.from c.loop-node.marks.items rest c.in-Some.node here, length-map c.args.graph.now (λ row. row.items)) in
    search rules

pub returns : goal.returns
returns c =
    let graph = map (λ row. row.items) c.args.graph.now in
    let empty : c.loop-node.stack.items ≡ [] = nil_from_length c.loop-node.stack.items (search rules) in
    search_ends graph c.args.from c.loop-node.marks.items (subst (IsSearch graph c.args.from c.loop-node.marks.items) empty c.loop-node.invariant)

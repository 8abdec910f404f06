use Rattle.std.proofs.Common.{◌≡◌, ◌+◌, map, length, subst, sym, ap, ◌∙◌, arith}
use Rattle.std.proofs.lemmas.List.{map_push, length-map}
use Rattle.support_reachability.proofs.Rows.{AreRows, no_rows, rows_more, all_rows}
use Rattle.support_reachability.proofs.table.Reachability.of.Goals as goal

pub loop-from-init : goal.loop-from-init
loop-from-init c =
    let graph = map (λ row. row.items) c.args.graph.now in
    subst (λ rows. AreRows graph 0 (map (λ row. row.items) rows)) (sym c.new-rows.ensures.items) (no_rows graph)

pub loop-from-preserved : goal.loop-from-preserved
loop-from-preserved c =
    let graph = map (λ row. row.items) c.args.graph.now in
    let rows = c.loop-from.rows.items in
    let row = c.in_ok-reached_from.field-0 in
    subst (AreRows graph (c.loop-from.from + 1)) (sym (ap (map (λ r. r.items)) c.in_ok-push.ensures.items ∙ map_push (λ r. r.items) rows row))
    (rows_more graph c.loop-from.from (map (λ r. r.items) rows) row.items c.loop-from.invariant c.in_ok-reached_from.ensures)

pub returns : goal.returns
returns c =
    let graph = map (λ row. row.items) c.args.graph.now in
    let rows = map (λ row. row.items) c.loop-from.rows.items in
    let all : c.loop-from.from ≡ length graph = omega (arith, length-map c.args.graph.now (λ row. row.items)) in
    all_rows graph rows (subst (λ n. AreRows graph n rows) all c.loop-from.invariant)

use Rattle.std.proofs.Common.{◌≡◌, ◌<◌, map, length, subst, sym, ap, ◌∙◌}
use Rattle.std.proofs.lemmas.List.{length-map}
use Rattle.support_reachability.specs.Table.{IsTableOf, table}
use Rattle.spec_declarations.specs.Counts.{AreCounts, is_past}
use Rattle.spec_declarations.specs.Views.{meanings}
use Rattle.spec_declarations.proofs.Bridge.{known_from}
use Rattle.spec_declarations.proofs.known.known.Goals as goal

pub returns-clause-known : goal.returns-clause-known
returns-clause-known c =
    let datas = meanings c.args.datas.now in
    let rows = map (λ row. row.items) c.in_ok-graph.graph.items in
    let own = c.in_ok-own.own.items in
    let counts = c.in_ok-counts.counts.items in
    let t = table c.in_ok-reached.reached in
    let all : length datas ≡ length c.args.datas.now = length-map c.args.datas.now (λ d. map (λ k. k.items) d.items) in
    let reached = subst (λ g. IsTableOf (map (λ row. row.items) g) t) c.deref.ensures.value c.in_ok-reached.ensures in
    let owned = subst (λ o. AreCounts (map (λ row. row.items) c.deref-2.result.now) o counts) c.deref-3.ensures.value c.in_ok-counts.ensures in
    let counted = subst (λ g. AreCounts (map (λ row. row.items) g) own counts) c.deref-2.ensures.value owned in
    let large = c.in_ok-large.ensures ∙ ap (map is_past) c.deref-4.ensures.value in
    known_from datas rows own counts t c.in_ok-recursive.recursive.items c.in_ok-large.large.items c.in_ok-graph.ensures c.in_ok-own.ensures.plain
    reached counted (c.in_ok-recursive.ensures.width ∙ sym all) (λ d l. c.in_ok-recursive.ensures.entries d (subst (λ n. d < n) all l)) large

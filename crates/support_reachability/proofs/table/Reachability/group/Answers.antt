use Rattle.std.proofs.Common.{◌≡◌, ◌+◌, ◌-◌, ◌<◌, length, true, false, arith, sym, ◌∙◌, ap, cond}
use Rattle.std.proofs.lemmas.List.{length-map}
use Rattle.support_reachability.specs.Table.{table, least_from, same_group}
use Rattle.support_reachability.proofs.Groups.{least_step}
use Rattle.support_reachability.proofs.table.Reachability.group.Goals as goal

pub loop-b-preserved : goal.loop-b-preserved
loop-b-preserved c =
    let t = table c.args.self.now in
    let a = c.args.a in
    let b = c.loop-b.b in
    let within : b < length t = omega (arith, length-map c.args.self.now.rows.items (λ row. row.items)) in
    let apart : same_group t a b ≡ false = sym c.if-same_group.ensures in
    ap (λ r. cond r b (least_from t a (b + 1) (length t - (b + 1)))) (sym apart) ∙ sym (least_step t a b (length t) within) ∙ c.loop-b.invariant

pub returns-then-same_group : goal.returns-then-same_group
returns-then-same_group c =
    let t = table c.args.self.now in
    let a = c.args.a in
    let b = c.loop-b.b in
    let within : b < length t = omega (arith, length-map c.args.self.now.rows.items (λ row. row.items)) in
    let same : true ≡ same_group t a b = c.if-same_group.ensures in
    ap (λ r. cond r b (least_from t a (b + 1) (length t - (b + 1)))) same ∙ sym (least_step t a b (length t) within) ∙ c.loop-b.invariant

pub returns : goal.returns
returns c =
    let t = table c.args.self.now in
    let past : length t - c.loop-b.b ≡ 0 = omega (arith, length-map c.args.self.now.rows.items (λ row. row.items)) in
    sym (ap (least_from t c.args.a c.loop-b.b) past) ∙ c.loop-b.invariant

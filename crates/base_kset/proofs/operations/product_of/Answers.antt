use Rattle.std.proofs.Common.{ℕ, List, ◌+◌, map, get_or, drop, [], sym, ap, ◌∙◌, rules, arith}
use Rattle.std.specs.List.{flat_map}
use Rattle.std.proofs.lemmas.List.{drop_all, drop_more}
use Rattle.word_operations.specs.Op2.{op2_of}
use Rattle.base_kset.specs.Sets.{add_all}
use Rattle.base_kset.specs.Adding.{add_all_is, add_all_append}
use Rattle.base_kset.proofs.operations.product_of.Goals as goal

pub returns : goal.returns
returns g c =
    let whole = rw (drop_all c.loop-x.x-index c.args.xs.now c.loop-x-test.false) at c.loop-x.invariant.whole in
    sym whole ∙ add_all_is g.row.K [] (flat_map (λ x. map (op2_of c.args.op c.args.w x) c.args.ys.now) c.args.xs.now) (omega arith)

pub loop-x-preserved : goal.loop-x-preserved
loop-x-preserved g c =
    let rows : ℕ → List ℕ = λ x. map (op2_of c.args.op c.args.w x) c.args.ys.now in
    let rest = flat_map rows (drop (c.loop-x.x-index + 1) c.args.xs.now) in
    let here = drop_more c.args.xs.now c.loop-x.x-index 0 c.loop-x-test.true in
    record {
      whole = c.loop-x.invariant.whole ∙ ap (λ l. add_all g.row.K c.loop-x.out (flat_map rows l)) here ∙ add_all_append g.row.K c.loop-x.out (rows (get_or c.args.xs.now c.loop-x.x-index 0)) rest ∙ ap (λ z. add_all g.row.K z rest) (sym c.add_row.ensures);
      below = search rules;
    }

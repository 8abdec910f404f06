use Rattle.std.proofs.Common.{ℕ, List, ◌+◌, map, get_or, drop, sym, ap, ◌∙◌, rules}
use Rattle.std.specs.List.{flat_map}
use Rattle.std.proofs.lemmas.List.{drop_more}
use Rattle.word_operations.specs.Op2.{op2_of}
use Rattle.base_strides.specs.Stretch.{hull_with, with_more}
use Rattle.base_strides.proofs.operations.with_rows.Goals as goal

pub loop-x-preserved : goal.loop-x-preserved
loop-x-preserved c =
    let rows : ℕ → List ℕ = λ x. map (op2_of c.args.op c.args.w x) c.args.ys.now in
    let rest = flat_map rows (drop (c.loop-x.x-index + 1) c.args.xs.now) in
    let here = drop_more c.args.xs.now c.loop-x.x-index 0 c.loop-x-test.true in
    record {
      whole = c.loop-x.invariant.whole ∙ ap (λ l. hull_with c.loop-x.out (flat_map rows l)) here
          ∙ with_more c.loop-x.out (rows (get_or c.args.xs.now c.loop-x.x-index 0)) rest ∙ ap (λ z. hull_with z rest) (sym c.with_row-out.ensures.value);
      below = search rules;
      order = c.with_row-out.ensures.order;
    }

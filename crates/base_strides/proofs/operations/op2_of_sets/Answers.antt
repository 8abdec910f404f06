use Rattle.std.proofs.Common.{◌≡◌, IfOk, IsTrue, ap, ap₂, subst, ◌∙◌}
use Rattle.std.specs.Prelude.{is_none}
use Rattle.word_operations.specs.Op2.{op2_of}
use Rattle.base_kset.specs.Sets.{products}
use Rattle.base_strides.specs.Ends.{by_hull}
use Rattle.base_strides.specs.Rows.{op2_row}
use Rattle.base_strides.proofs.operations.op2_of_sets.Goals as goal

pub returns-then-is_any-clause-value : goal.returns-then-is_any-clause-value
returns-then-is_any-clause-value c =
    let test = c.is_any.ensures ∙ ap is_none (c.in_ok-set.ensures.value ∙ ap₂ (products 16 (op2_of c.args.op c.args.w)) c.set.ensures c.set-2.ensures) in
    subst (λ z. IfOk c.hull_of_sets.result (λ r. r ≡ z)) (by_hull (op2_of c.args.op c.args.w) (op2_row c.args.op c.args.w) c.args.x.now c.args.y.now c.requires.first c.requires.second (subst IsTrue test c.if-is_any.true)) c.hull_of_sets.ensures.value

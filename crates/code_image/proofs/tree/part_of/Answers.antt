use Rattle.std.proofs.Common.{[], ◌∷◌, ◌+◌, ◌++◌, ap, sym, ◌∙◌, map, drop, get_or, append_assoc}
use Rattle.std.proofs.lemmas.List.{drop_more as drop_from}
use Rattle.spec_ir.specs.Views.{row_of}
use Rattle.semantics.specs.Decode.{row_met}
use Rattle.code_image.specs.Tree.{picked}
use Rattle.code_image.proofs.Groups.{picked_without}
use Rattle.code_image.proofs.tree.part_of.Goals as goal
use Rattle.code_image.proofs.tree.part_of.Goals.{then-may_have+in_ok-push, else-may_have}

pub loop-number-preserved : goal.loop-number-preserved
loop-number-preserved c = λ code e.
    let rows = map row_of c.args.rows.now in
    let out = c.loop-number.out.items in
    let k = c.loop-number.number-index in
    let group = c.args.group.now in
    let rest = drop (k + 1) group in
    let n = get_or group k 0 in
    let was = ap (λ r. row_met code (picked rows (out ++ r))) (sym (drop_from group k 0 c.loop-number-test.true)) ∙ c.loop-number.invariant code e in
    elim c.if-may_have.branch [
      | then-may_have+in_ok-push w ↦ ap (λ v. row_met code (picked rows (v.items ++ rest))) w.out-is ∙ ap (λ r. row_met code (picked rows (r ++ rest))) w.in_ok-push.ensures.items ∙ ap (λ r. row_met code (picked rows r)) (append_assoc out (n ∷ []) rest) ∙ was
      | else-may_have w ↦ ap (λ v. row_met code (picked rows (v.items ++ rest))) w.out-is ∙ sym (picked_without rows code n out rest (c.may_have.ensures w.if-may_have.false code (picked rows rest) e)) ∙ was
    ]

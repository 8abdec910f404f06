use Rattle.std.proofs.Common.{◌≡◌, ◌+◌, ◌∷◌, ◌++◌, [], ap₂, sym, ◌∙◌, arith}
use Rattle.std.proofs.lemmas.List.FromFn.{map-range_with_len_more}
use Rattle.domain_affine_element_laws.specs.Opened.{opened_cell}
use Rattle.domain_affine.proofs.opened.opened_words.Goals as goal

pub loop-cell-preserved : goal.loop-cell-preserved
loop-cell-preserved c =
    let same : 0 + c.loop-cell.cell ≡ c.loop-cell.cell = omega arith in
    c.in_ok-push.ensures.items ∙ ap₂ (λ l x. l ++ x ∷ []) c.loop-cell.invariant c.in_ok-open_cell.ensures.value
    ∙ sym (map-range_with_len_more (opened_cell c.args.k c.args.x.now.rows) 0 c.loop-cell.cell c.loop-cell.cell same)

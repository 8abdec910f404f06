use Rattle.support_modular_rows.specs.Reduction.{InSpan}
use Rattle.support_modular_rows.proofs.Store.{copied_to, copied_from, match_map}
use Rattle.support_modular_rows.proofs.slots.holds.Goals as goal

pub returns : goal.returns
returns c =
    let rs = c.args.rows.now in
    let r = c.args.row.now in
    let x = c.vector_of.result in
    match_map c.spans.result (InSpan rs x) (InSpan rs x → ⊥) (InSpan rs r) (InSpan rs r → ⊥)
    (copied_to rs x r c.requires.size c.vector_of.ensures) (λ no h. no (copied_from rs x r c.requires.size c.vector_of.ensures h)) c.spans.ensures

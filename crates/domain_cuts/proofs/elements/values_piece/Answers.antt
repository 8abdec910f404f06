use Rattle.std.proofs.Common.{◌≤◌, map, inl, inr, subst, sym}
use Rattle.std.proofs.lemmas.List.{length-map}
use Rattle.abstract_value.specs.View.{abs}
use Rattle.abstract_value_laws.specs.Abs.{parts}
use Rattle.domain_cell_pieces.specs.Pieces.{values_piece}
use Rattle.domain_cuts.proofs.Placing.{if_whole, not_there}
use Rattle.domain_cuts.proofs.elements.values_piece.Goals as goal
use Rattle.domain_cuts.proofs.elements.values_piece.Goals.{else-n-fields-via-then-n-fields+else-n-xs, else-n-fields-via-else-n-fields}

pub returns-else-n-fields : goal.returns-else-n-fields
returns-else-n-fields g c =
    let B = g.B.Base.algebra in
    let K = g.B.CutBase.cuts in
    let ctx = c.args.ctx.now in
    let cap = g.B.Base.CAP in
    let cut = c.args.cut in
    let fields = c.args.fields.now in
    let n = c.args.n in
    let values = map abs c.args.xs.now in
    let left = not_there B K ctx cap cut.key cut.low cut.high fields n values in
    if_whole B K ctx cap cut.key cut.low cut.high (λ v. parts (map abs v.items)) c.whole.result (values_piece B K ctx cap fields n cut.key cut.low cut.high (parts values)) (parts values) c.whole.ensures
    (elim c.else-n-fields.branch [
      | else-n-fields-via-then-n-fields+else-n-xs w ↦ left (inr (subst (λ k. k ≤ n) (sym (length-map c.args.xs.now (λ v. abs v))) w.if-n-xs.false))
      | else-n-fields-via-else-n-fields w ↦ left (inl w.if-n-fields.false)
    ])

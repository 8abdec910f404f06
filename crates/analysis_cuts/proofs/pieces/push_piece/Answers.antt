use Rattle.std.proofs.Common.{◌∙◌, [], ◌∷◌, ap, map, subst}
use Rattle.std.specs.Prelude.{option_map}
use Rattle.std.proofs.lemmas.List.{map-append}
use Rattle.fixpoint_cases.specs.Same.{IsSamePiece}
use Rattle.analysis_cuts.proofs.Stretching.{joins_some}
use Rattle.analysis_cuts.proofs.pieces.push_piece.Goals as goal

pub returns-in_ok-put-clause-value : goal.returns-in_ok-put-clause-value
returns-in_ok-put-clause-value g c =
    let D = g.D.Domain.elements c.args.domain.now in
    let view = g.D.Domain.view in
    let range = c.args.range in
    let piece = g.D.Domain.pieces c.args.domain.now (range.place, range.key) range.low range.high (view c.args.x.now) in
    joins_some D (map view c.args.out.now.items) (map view c.put.new.list.items) (view c.in-Some.left) piece
    (ap (map view) c.in_ok-put.ensures.items ∙ map-append view c.args.out.now.items (c.in-Some.left ∷ []))
    (subst (λ o. IsSamePiece D (option_map view o) piece) c.in-Some.is c.in_ok-left.ensures.value)

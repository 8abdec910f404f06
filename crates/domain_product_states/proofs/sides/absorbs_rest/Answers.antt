use Rattle.std.proofs.Common.{ap, ap₂, sym, subst, ◌∙◌}
use Rattle.word_operations.specs.Width.{IsWidth}
use Rattle.abstract_map_laws.specs.Cells.{absorbs_cell}
use Rattle.domain_product_laws.specs.Calls.{mapped_cell}
use Rattle.domain_product_states.proofs.Walks.{fits_rest_word, rest_is}
use Rattle.domain_product_states.proofs.sides.absorbs_rest.Goals as goal

pub absorbs_cell-requires-clause-width : goal.absorbs_cell-requires-clause-width
absorbs_cell-requires-clause-width g c = subst (λ w. IsWidth w) (sym c.width.ensures) c.requires.old.width

pub absorbs_cell-requires-clause-old : goal.absorbs_cell-requires-clause-old
absorbs_cell-requires-clause-old g c =
    let B = g.S.To.Base.algebra in
    let cap = g.S.To.Base.CAP in
    let k = c.args.ctx.now in
    fits_rest_word B k cap g.S.Sides.old_word_of g.S.Sides.old_note_of c.width.result c.args.old.now c.rest_word.result.now c.width.ensures c.requires.old c.rest_word.ensures

pub absorbs_cell-requires-clause-new : goal.absorbs_cell-requires-clause-new
absorbs_cell-requires-clause-new g c =
    let B = g.S.To.Base.algebra in
    let cap = g.S.To.Base.CAP in
    let k = c.args.ctx.now in
    fits_rest_word B k cap g.S.Sides.new_word_of g.S.Sides.new_note_of c.width.result c.args.new.now c.rest_word-2.result.now (c.width.ensures ∙ c.requires.width) c.requires.new c.rest_word-2.ensures

pub returns : goal.returns
returns g c =
    let B = g.S.To.Base.algebra in
    let k = c.args.ctx.now in
    let f = g.S.Sides.old_word_of in
    let f' = g.S.Sides.old_note_of in
    let h = g.S.Sides.new_word_of in
    let h' = g.S.Sides.new_note_of in
    let old = c.args.old.now in
    let new = c.args.new.now in
    c.absorbs_cell.ensures
    ∙ ap (λ w. absorbs_cell B k w (mapped_cell f f' (record { word = c.rest_word.result.now; note = c.rest_note.result.now })) (mapped_cell h h' (record { word = c.rest_word-2.result.now; note = c.rest_note-2.result.now }))) c.width.ensures
    ∙ ap₂ (λ x y. absorbs_cell B k old.width x y) (rest_is f f' old c.rest_word.result.now c.rest_note.result.now c.rest_word.ensures c.rest_note.ensures) (rest_is h h' new c.rest_word-2.result.now c.rest_note-2.result.now c.rest_word-2.ensures c.rest_note-2.ensures)

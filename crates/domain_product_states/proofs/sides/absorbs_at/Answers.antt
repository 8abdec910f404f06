use Rattle.std.proofs.Common.{ap, sym, subst, ◌∙◌}
use Rattle.word_operations.specs.Width.{IsWidth}
use Rattle.abstract_map_laws.specs.Cells.{absorbs_cell}
use Rattle.abstract_map_laws.specs.Maps.{cell}
use Rattle.domain_product_laws.specs.Calls.{mapped_cell, mapped_map}
use Rattle.domain_product_states.proofs.Walks.{cell_is, fits_word, keys_ascend}
use Rattle.domain_product_states.proofs.sides.absorbs_at.Goals as goal

pub word_at-word-requires : goal.word_at-word-requires
word_at-word-requires g c = record { order = keys_ascend g.S.To.Base.algebra c.args.ctx.now g.S.To.Base.CAP g.S.Sides.old_word_of g.S.Sides.old_note_of c.args.old.now c.requires.old }

pub note_at-requires : goal.note_at-requires
note_at-requires g c = record { order = keys_ascend g.S.To.Base.algebra c.args.ctx.now g.S.To.Base.CAP g.S.Sides.old_word_of g.S.Sides.old_note_of c.args.old.now c.requires.old }

pub absorbs_there-requires-clause-width : goal.absorbs_there-requires-clause-width
absorbs_there-requires-clause-width g c = subst (λ w. IsWidth w) (sym c.width.ensures) c.requires.old.width

pub absorbs_there-requires-clause-old : goal.absorbs_there-requires-clause-old
absorbs_there-requires-clause-old g c = fits_word g.S.To.Base.algebra c.args.ctx.now g.S.To.Base.CAP g.S.Sides.old_word_of g.S.Sides.old_note_of c.width.result c.args.old.now c.args.key c.word_at-word.result.now c.width.ensures c.requires.old c.word_at-word.ensures

pub absorbs_there-requires-clause-same : goal.absorbs_there-requires-clause-same
absorbs_there-requires-clause-same g c = c.width.ensures ∙ c.requires.width

pub returns : goal.returns
returns g c =
    let B = g.S.To.Base.algebra in
    let k = c.args.ctx.now in
    let f = g.S.Sides.old_word_of in
    let f' = g.S.Sides.old_note_of in
    let old = c.args.old.now in
    let there = cell (mapped_map g.S.Sides.new_word_of g.S.Sides.new_note_of c.args.new.now) c.args.key in
    c.absorbs_there.ensures
    ∙ ap (λ w. absorbs_cell B k w (mapped_cell f f' (record { word = c.word_at-word.result.now; note = c.note_at.result.now })) there) c.width.ensures
    ∙ ap (λ x. absorbs_cell B k old.width x there) (cell_is f f' old c.args.key c.word_at-word.result.now c.note_at.result.now c.word_at-word.ensures c.note_at.ensures)

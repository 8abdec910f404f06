use Rattle.std.proofs.Common.{ap, ◌∙◌}
use Rattle.abstract_map_laws.specs.Cells.{absorbs_cell}
use Rattle.domain_product_states.proofs.Walks.{cell_is, fits_word, keys_ascend}
use Rattle.domain_product_states.proofs.sides.absorbs_there.Goals as goal

pub word_at-other-requires : goal.word_at-other-requires
word_at-other-requires g c = record { order = keys_ascend g.S.To.Base.algebra c.args.ctx.now g.S.To.Base.CAP g.S.Sides.new_word_of g.S.Sides.new_note_of c.args.new.now c.requires.new }

pub note_at-requires : goal.note_at-requires
note_at-requires g c = record { order = keys_ascend g.S.To.Base.algebra c.args.ctx.now g.S.To.Base.CAP g.S.Sides.new_word_of g.S.Sides.new_note_of c.args.new.now c.requires.new }

pub absorbs_cell-requires-clause-new : goal.absorbs_cell-requires-clause-new
absorbs_cell-requires-clause-new g c = fits_word g.S.To.Base.algebra c.args.ctx.now g.S.To.Base.CAP g.S.Sides.new_word_of g.S.Sides.new_note_of c.args.w c.args.new.now c.args.key c.word_at-other.result.now c.requires.same c.requires.new c.word_at-other.ensures

pub returns : goal.returns
returns g c =
    c.absorbs_cell.ensures
    ∙ ap (λ y. absorbs_cell g.S.To.Base.algebra c.args.ctx.now c.args.w (record { word = g.S.Sides.old_word_of c.args.word.now; note = g.S.Sides.old_note_of c.args.note.now }) y)
    (cell_is g.S.Sides.new_word_of g.S.Sides.new_note_of c.args.new.now c.args.key c.word_at-other.result.now c.note_at.result.now c.word_at-other.ensures c.note_at.ensures)

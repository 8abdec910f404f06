use Rattle.std.proofs.Common.{sym, ◌∙◌}
use Rattle.std.proofs.lemmas.Bool.{ne_eqb}
use Rattle.abstract_map_laws.specs.Calls.{absorbs_of as absorbs_map}
use Rattle.abstract_value.proofs.Both.{tested}
use Rattle.domain_product_laws.specs.Calls.{mapped_map}
use Rattle.domain_product_states.proofs.Walks.{width_differs}
use Rattle.domain_product_states.proofs.sides.absorbs_of_width.Goals as goal

pub absorbs_map-requires-clause-width : goal.absorbs_map-requires-clause-width
absorbs_map-requires-clause-width g c = sym c.width.ensures ∙ c.if-width.true ∙ c.width-2.ensures

pub returns-then-width : goal.returns-then-width
returns-then-width g c =
    c.absorbs_map.ensures
    ∙ tested c.args.old.now.width c.args.new.now.width (absorbs_map g.S.To.Base.algebra c.args.ctx.now (mapped_map g.S.Sides.old_word_of g.S.Sides.old_note_of c.args.old.now) (mapped_map g.S.Sides.new_word_of g.S.Sides.new_note_of c.args.new.now)) (sym c.width.ensures ∙ c.if-width.true ∙ c.width-2.ensures)

pub returns-else-width : goal.returns-else-width
returns-else-width g c =
    ne_eqb c.width.result c.width-2.result c.if-width.false
    ∙ width_differs c.args.old.now.width c.args.new.now.width (absorbs_map g.S.To.Base.algebra c.args.ctx.now (mapped_map g.S.Sides.old_word_of g.S.Sides.old_note_of c.args.old.now) (mapped_map g.S.Sides.new_word_of g.S.Sides.new_note_of c.args.new.now)) (λ e. c.if-width.false (c.width.ensures ∙ e ∙ sym c.width-2.ensures))

use Rattle.std.proofs.Common.{subst, ◌∙◌}
use Rattle.std.proofs.lemmas.Bool.{ne_eqb}
use Rattle.abstract_value_laws.specs.Fits.{Fits}
use Rattle.abstract_value.specs.View.{abs}
use Rattle.domain_product_laws.specs.Calls.{mapped_map, mapped_value}
use Rattle.domain_product_states.proofs.Walks.{map_of_value, maps_absorbed, maps_differ}
use Rattle.domain_product_states.proofs.sides.map_absorbs.Goals as goal

pub absorbs_of_width-requires-clause-new : goal.absorbs_of_width-requires-clause-new
absorbs_of_width-requires-clause-new g c = subst (Fits g.S.To.Base.algebra c.args.ctx.now g.S.To.Base.CAP) (map_of_value g.S.Sides.new_word_of g.S.Sides.new_note_of c.args.y.now c.in-Map.n c.in-Map.other c.in-Map.is) c.requires.new

pub returns-then-map-n : goal.returns-then-map-n
returns-then-map-n g c =
    maps_absorbed g.S.To.Base.algebra c.args.ctx.now c.args.map c.in-Map.n (mapped_map g.S.Sides.old_word_of g.S.Sides.old_note_of c.args.m.now) (mapped_map g.S.Sides.new_word_of g.S.Sides.new_note_of c.in-Map.other) (mapped_value g.S.Sides.new_word_of g.S.Sides.new_note_of (abs c.args.y.now)) c.absorbs_of_width.result
    (map_of_value g.S.Sides.new_word_of g.S.Sides.new_note_of c.args.y.now c.in-Map.n c.in-Map.other c.in-Map.is) c.if-map-n.true c.absorbs_of_width.ensures

pub returns-else-map-n : goal.returns-else-map-n
returns-else-map-n g c =
    ne_eqb c.args.map c.in-Map.n c.if-map-n.false
    ∙ maps_differ g.S.To.Base.algebra c.args.ctx.now c.args.map c.in-Map.n (mapped_map g.S.Sides.old_word_of g.S.Sides.old_note_of c.args.m.now) (mapped_map g.S.Sides.new_word_of g.S.Sides.new_note_of c.in-Map.other) (mapped_value g.S.Sides.new_word_of g.S.Sides.new_note_of (abs c.args.y.now))
    (map_of_value g.S.Sides.new_word_of g.S.Sides.new_note_of c.args.y.now c.in-Map.n c.in-Map.other c.in-Map.is) c.if-map-n.false

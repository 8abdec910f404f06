use Rattle.std.proofs.Common.{◌≡◌, drop}
use Rattle.std.specs.List.{list_all}
use Rattle.abstract_map_laws.specs.Cells.{absorbs_cell}
use Rattle.abstract_map_laws.specs.Maps.{cell, keys}
use Rattle.domain_product_laws.specs.Calls.{mapped_map}
use Rattle.domain_product_states.proofs.sides.absorbs_at_keys.Given as goal

abbrev pub invariant-loop-place : goal.invariant-loop-place
invariant-loop-place g l =
    list_all (λ k. absorbs_cell g.S.To.Base.algebra l.ctx l.old.width (cell (mapped_map g.S.Sides.old_word_of g.S.Sides.old_note_of l.old) k) (cell (mapped_map g.S.Sides.new_word_of g.S.Sides.new_note_of l.new) k)) (drop l.place (keys l.listing))
    ≡ list_all (λ k. absorbs_cell g.S.To.Base.algebra l.ctx l.old.width (cell (mapped_map g.S.Sides.old_word_of g.S.Sides.old_note_of l.old) k) (cell (mapped_map g.S.Sides.new_word_of g.S.Sides.new_note_of l.new) k)) (keys l.listing)

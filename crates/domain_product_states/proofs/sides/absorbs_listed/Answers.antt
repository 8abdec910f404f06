use Rattle.std.proofs.Common.{ℕ}
use Rattle.abstract_map_laws.specs.Cells.{absorbs_cell}
use Rattle.abstract_map_laws.specs.Maps.{cell, keys}
use Rattle.domain_product_laws.specs.Calls.{mapped_map}
use Rattle.domain_product_states.proofs.Walks.{either_off, either_on}
use Rattle.domain_product_states.proofs.sides.absorbs_listed.Goals as goal

pub returns-then-absorbs_at_keys : goal.returns-then-absorbs_at_keys
returns-then-absorbs_at_keys g c =
    let test = λ (k : ℕ). absorbs_cell g.S.To.Base.algebra c.args.ctx.now c.args.old.now.width (cell (mapped_map g.S.Sides.old_word_of g.S.Sides.old_note_of c.args.old.now) k) (cell (mapped_map g.S.Sides.new_word_of g.S.Sides.new_note_of c.args.new.now) k) in
    either_on test (keys c.args.old.now) (keys c.args.new.now) c.absorbs_at_keys.result c.absorbs_at_keys-then-absorbs_at_keys.result c.absorbs_at_keys.ensures c.absorbs_at_keys-then-absorbs_at_keys.ensures c.if-absorbs_at_keys.true

pub returns-else-absorbs_at_keys : goal.returns-else-absorbs_at_keys
returns-else-absorbs_at_keys g c =
    let test = λ (k : ℕ). absorbs_cell g.S.To.Base.algebra c.args.ctx.now c.args.old.now.width (cell (mapped_map g.S.Sides.old_word_of g.S.Sides.old_note_of c.args.old.now) k) (cell (mapped_map g.S.Sides.new_word_of g.S.Sides.new_note_of c.args.new.now) k) in
    either_off test (keys c.args.old.now) (keys c.args.new.now) c.absorbs_at_keys.result c.absorbs_at_keys.ensures c.if-absorbs_at_keys.false

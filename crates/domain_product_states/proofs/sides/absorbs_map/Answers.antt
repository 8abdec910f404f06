use Rattle.std.proofs.Common.{ℕ, ap₂, sym, ◌∙◌}
use Rattle.std.specs.List.{list_all}
use Rattle.std.specs.Prelude.{◌&&◌}
use Rattle.abstract_map_laws.specs.Cells.{absorbs_cell}
use Rattle.abstract_map_laws.specs.Keys.{either_key}
use Rattle.abstract_map_laws.specs.Maps.{cell, keys}
use Rattle.domain_product_laws.specs.Calls.{mapped_cell, mapped_map}
use Rattle.domain_product_states.proofs.Mapped.{keys_stay}
use Rattle.domain_product_states.proofs.Walks.{both_off, both_on}
use Rattle.domain_product_states.proofs.sides.absorbs_map.Goals as goal

pub returns-then-absorbs_listed : goal.returns-then-absorbs_listed
returns-then-absorbs_listed g c =
    let B = g.S.To.Base.algebra in
    let f = g.S.Sides.old_word_of in
    let f' = g.S.Sides.old_note_of in
    let h = g.S.Sides.new_word_of in
    let h' = g.S.Sides.new_note_of in
    let old = c.args.old.now in
    let new = c.args.new.now in
    let test = λ (k : ℕ). absorbs_cell B c.args.ctx.now old.width (cell (mapped_map f f' old) k) (cell (mapped_map h h' new) k) in
    let rest = absorbs_cell B c.args.ctx.now old.width (mapped_cell f f' old.rest) (mapped_cell h h' new.rest) in
    both_on c.absorbs_listed.result c.absorbs_rest.result (list_all test (either_key (keys old) (keys new))) rest c.absorbs_listed.ensures c.absorbs_rest.ensures c.if-absorbs_listed.true
    ∙ ap₂ (λ ks js. list_all test (either_key ks js) && rest) (sym (keys_stay f f' old.cells)) (sym (keys_stay h h' new.cells))

pub returns-else-absorbs_listed : goal.returns-else-absorbs_listed
returns-else-absorbs_listed g c =
    let B = g.S.To.Base.algebra in
    let f = g.S.Sides.old_word_of in
    let f' = g.S.Sides.old_note_of in
    let h = g.S.Sides.new_word_of in
    let h' = g.S.Sides.new_note_of in
    let old = c.args.old.now in
    let new = c.args.new.now in
    let test = λ (k : ℕ). absorbs_cell B c.args.ctx.now old.width (cell (mapped_map f f' old) k) (cell (mapped_map h h' new) k) in
    let rest = absorbs_cell B c.args.ctx.now old.width (mapped_cell f f' old.rest) (mapped_cell h h' new.rest) in
    both_off c.absorbs_listed.result (list_all test (either_key (keys old) (keys new))) rest c.absorbs_listed.ensures c.if-absorbs_listed.false
    ∙ ap₂ (λ ks js. list_all test (either_key ks js) && rest) (sym (keys_stay f f' old.cells)) (sym (keys_stay h h' new.cells))

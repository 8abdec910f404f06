use Rattle.std.proofs.Common.{ℕ, sym, arith}
use Rattle.abstract_map_laws.specs.Cells.{absorbs_cell}
use Rattle.abstract_map_laws.specs.Maps.{cell, keys}
use Rattle.abstract_map_laws.proofs.Fitting.{length_keys}
use Rattle.domain_product_laws.specs.Calls.{mapped_map}
use Rattle.domain_product_states.proofs.Walks.{test_end, test_off, test_on}
use Rattle.domain_product_states.proofs.sides.absorbs_at_keys.Goals as goal

pub returns-then-not-absorbs_at : goal.returns-then-not-absorbs_at
returns-then-not-absorbs_at g c =
    let test = λ (k : ℕ). absorbs_cell g.S.To.Base.algebra c.args.ctx.now c.args.old.now.width (cell (mapped_map g.S.Sides.old_word_of g.S.Sides.old_note_of c.args.old.now) k) (cell (mapped_map g.S.Sides.new_word_of g.S.Sides.new_note_of c.args.new.now) k) in
    test_off test (keys c.args.listing.now) c.loop-place.place c.key_at.result c.key_at.ensures _ (sym c.if-not-absorbs_at.ensures) c.loop-place.invariant

pub loop-place-preserved : goal.loop-place-preserved
loop-place-preserved g c =
    let test = λ (k : ℕ). absorbs_cell g.S.To.Base.algebra c.args.ctx.now c.args.old.now.width (cell (mapped_map g.S.Sides.old_word_of g.S.Sides.old_note_of c.args.old.now) k) (cell (mapped_map g.S.Sides.new_word_of g.S.Sides.new_note_of c.args.new.now) k) in
    test_on test (keys c.args.listing.now) c.loop-place.place c.key_at.result c.key_at.ensures _ (sym c.if-not-absorbs_at.ensures) c.loop-place.invariant

pub returns : goal.returns
returns g c =
    let test = λ (k : ℕ). absorbs_cell g.S.To.Base.algebra c.args.ctx.now c.args.old.now.width (cell (mapped_map g.S.Sides.old_word_of g.S.Sides.old_note_of c.args.old.now) k) (cell (mapped_map g.S.Sides.new_word_of g.S.Sides.new_note_of c.args.new.now) k) in
    let end = c.listed-place-end.ensures in
    let count = length_keys c.args.listing.now.cells in
    let past = c.loop-place-test.false in
    test_end test (keys c.args.listing.now) c.loop-place.place _ (omega (arith, end, count, past)) c.loop-place.invariant

use Rattle.std.proofs.Common.{sym, ◌∙◌}
use Rattle.fixpoint_theory.specs.declared.table.Table.{Table}
use Rattle.test_worklist.proofs.Fits.{fits_from, inserted}
use Rattle.test_worklist.proofs.reading.table.Goals as goal

pub returns : goal.returns
returns c =
    let p = c.args.program.now in
    let t : Table _ = record { blocks = c.loop-part.blocks } in
    fits_from p.code.items p.start p.entry t c.loop-part.invariant

pub loop-part-preserved-in_ok-insert : goal.loop-part-preserved-in_ok-insert
loop-part-preserved-in_ok-insert c =
    let code = c.args.program.now.code.items in
    inserted code c.loop-part.blocks c.insert.new.self c.in-Ok.at c.in-Some-2.block (c.in_ok-insert.ensures.updates) c.loop-part.invariant (sym c.is_code.ensures ∙ c.if-not-is_code.false)
    (rw c.in-Some-2.is at c.in_ok-block.ensures)

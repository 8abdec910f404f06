use Rattle.std.proofs.Common.{arith}
use Rattle.text_part_readers.proofs.RowSteps.{row_begins, row_goes_on, row_stops}
use Rattle.text_part_readers.proofs.rows.row_said.Goals as goal

pub loop-i-init : goal.loop-i-init
loop-i-init c = row_begins c.args.k c.args.line.now c.in-Some.text.now c.in_ok-row.row.items c.in_ok-row.ensures.items c.in-Some.ensures

pub loop-i-preserved : goal.loop-i-preserved
loop-i-preserved c =
    row_goes_on c.args.k c.loop-i._i c.in-Some-number_behind_space.number c.loop-i.row.items c.in_ok-row-2.row.items c.loop-i.text.now c.in-Some-number_behind_space.rest.now _ (omega arith)
    c.in-Some-number_behind_space.ensures c.in_ok-row-2.ensures c.loop-i.invariant

pub returns-in_default-number_behind_space : goal.returns-in_default-number_behind_space
returns-in_default-number_behind_space c = row_stops c.args.k c.loop-i._i c.loop-i.row.items c.loop-i.text.now _ (omega arith) c.in_default-number_behind_space.ensures c.loop-i.invariant

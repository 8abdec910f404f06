use Rattle.std.proofs.Common.{arith}
use Rattle.spec_ir.specs.Views.{specification}
use Rattle.text_part_readers.proofs.ListedSteps.{last_more, listed_full, listed_more}
use Rattle.text_part_readers.proofs.fields.read_listed.Goals as goal

pub cells-preserved : goal.cells-preserved
cells-preserved g c =
    let read = rw c.in-Ok-Some.field-0-is at c.in-Ok-Some.ensures in
    record {
      so_far =
          listed_more g.B.CellBase.readings _ (specification c.args.spec.now) g.B.Base.CAP _ c.args.ty c.args.w c.cells.cells.items c.in_ok-cells-in-Ok-Some.cells.items c.cells.last c.in-Ok-Some.cell c.cells.lines c.read_listed_cell.new.lines _
          (omega (arith, c.cells-test.true, c.len.ensures, c.CAP.ensures)) c.cells.invariant.last read c.in_ok-cells-in-Ok-Some.ensures c.cells.invariant.so_far;
      last = last_more c.cells.cells.items c.in_ok-cells-in-Ok-Some.cells.items c.in-Ok-Some.cell c.in_ok-cells-in-Ok-Some.ensures;
    }

pub returns : goal.returns
returns g c = listed_full g.B.CellBase.readings _ (specification c.args.spec.now) g.B.Base.CAP _ c.args.ty c.args.w c.cells.cells.items c.cells.lines _ (omega (arith, c.cells-test.false, c.len.ensures, c.CAP.ensures)) c.cells.invariant.so_far

use Rattle.std.proofs.Common.{map}
use Rattle.spec_ir.specs.Views.{specification}
use Rattle.abstract_value_laws.specs.Abs.{parts}
use Rattle.abstract_value.specs.View.{abs}
use Rattle.text_element_readers.proofs.Bodies.{cells_done, cells_fewer}
use Rattle.text_element_readers.proofs.element.read_named.Goals as goal

pub returns-clause-reads : goal.returns-clause-reads
returns-clause-reads g c =
    cells_done g.B.CellBase.readings g.B.Base.CAP g.B.NamedBase.named (specification c.args.spec.now) _ c.read_cells.result (λ xs. parts (map abs xs.items)) c.read_part.result c.name.result.now c.args.lines.now c.read_part.new.lines
    c.read_cells.new.lines c.if-not-read_part.false c.name.ensures c.read_part.ensures c.read_cells.ensures.value

pub returns-clause-shorter : goal.returns-clause-shorter
returns-clause-shorter g c =
    cells_fewer g.B.CellBase.readings g.B.Base.CAP g.B.NamedBase.named (specification c.args.spec.now) _ c.read_cells.result (λ xs. parts (map abs xs.items)) c.read_part.result c.name.result.now c.args.lines.now c.read_part.new.lines
    c.read_cells.new.lines c.read_part.ensures c.read_cells.ensures.value

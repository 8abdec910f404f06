use Rattle.std.proofs.Common.{arith}
use Rattle.spec_ir.specs.Views.{specification}
use Rattle.abstract_value.specs.View.{abs}
use Rattle.text_part_readers.proofs.FieldSteps.{fields_begin, fields_more, fields_stop}
use Rattle.text_part_readers.proofs.Fitting.{field_right}
use Rattle.text_part_readers.proofs.fields.read_fields.Goals as goal

pub loop-i-init : goal.loop-i-init
loop-i-init g c = fields_begin g.B.CellBase.readings _ (specification c.args.spec.now) g.B.Base.CAP abs c.args.fields.now c.in_ok-values.values.items c.args.lines.now c.in_ok-values.ensures.items

pub read_value-next-requires : goal.read_value-next-requires
read_value-next-requires g c = record { right = field_right (specification c.args.spec.now) c.args.fields.now c.loop-i.i c.index-fields-i.result c.loop-i-test.true c.index-fields-i.is c.requires.right }

pub returns-in_default : goal.returns-in_default
returns-in_default g c =
    fields_stop g.B.CellBase.readings _ (specification c.args.spec.now) g.B.Base.CAP abs c.args.fields.now c.loop-i.i c.index-fields-i.result c.loop-i.values.items c.read_value-next.result c.loop-i.lines
    c.read_value-next.new.lines _ c.loop-i-test.true c.index-fields-i.is c.read_value-next.ensures c.loop-i.invariant (rw c.in_default.is at c.in_ok-longer.ensures)

pub loop-i-preserved : goal.loop-i-preserved
loop-i-preserved g c =
    fields_more g.B.CellBase.readings _ (specification c.args.spec.now) g.B.Base.CAP abs c.args.fields.now c.loop-i.i c.index-fields-i.result c.loop-i.values.items c.read_value-next.result c.loop-i.lines
    c.read_value-next.new.lines _ c.loop-i-test.true c.index-fields-i.is c.read_value-next.ensures c.loop-i.invariant c.in-Some.longer.items (rw c.in-Some.is at c.in_ok-longer.ensures)

use Rattle.std.proofs.Common.{◌≡◌, Some, None}
use Rattle.std.specs.Prelude.{option_map}
use Rattle.spec_ir.specs.Views.{specification}
use Rattle.abstract_value.specs.View.{abs}
use Rattle.text_part_readers.proofs.Fitting.{read_map_fits}
use Rattle.text_part_readers.proofs.MapSteps.{map_was_read, no_rest}
use Rattle.text_part_readers.proofs.fields.read_map.Goals as goal

pub map_of-requires-clause-fits : goal.map_of-requires-clause-fits
map_of-requires-clause-fits g c =
    λ x e.
    (read_map_fits g.B.Base.algebra c.args.ctx.now g.B.BaseText.texts g.B.CellBase.readings g.met.B.CellBase.tell _ (specification c.args.spec.now) g.B.Base.CAP c.args.name.now c.args.number c.args.ty.now
    c.args.lines.now c.read_rest.new.lines c.read_listed-cells.new.lines c.in-Some.rest x.items c.requires.right (rw c.in-Some.is at c.in_ok-rest.ensures) (rw e at c.read_listed-cells.ensures)).0

pub map_of-requires-clause-few : goal.map_of-requires-clause-few
map_of-requires-clause-few g c =
    λ x e.
    (read_map_fits g.B.Base.algebra c.args.ctx.now g.B.BaseText.texts g.B.CellBase.readings g.met.B.CellBase.tell _ (specification c.args.spec.now) g.B.Base.CAP c.args.name.now c.args.number c.args.ty.now
    c.args.lines.now c.read_rest.new.lines c.read_listed-cells.new.lines c.in-Some.rest x.items c.requires.right (rw c.in-Some.is at c.in_ok-rest.ensures) (rw e at c.read_listed-cells.ensures)).1

pub returns-in-Some : goal.returns-in-Some
returns-in-Some g c =
    map_was_read g.B.CellBase.readings _ (specification c.args.spec.now) g.B.Base.CAP c.args.name.now c.args.number c.args.ty.now c.map_of.result c.read_listed-cells.result (λ r. option_map abs r) (λ cs. cs.items)
    c.args.lines.now c.read_rest.new.lines c.read_listed-cells.new.lines c.in-Some.rest c.map_of.ensures c.read_listed-cells.ensures (rw c.in-Some.is at c.in_ok-rest.ensures)

pub returns-in-None : goal.returns-in-None
returns-in-None g c =
    no_rest g.B.CellBase.readings _ (specification c.args.spec.now) g.B.Base.CAP c.args.name.now c.args.number c.args.ty.now c.args.lines.now c.read_rest.new.lines (rw c.in-None.is at c.in_ok-rest.ensures)

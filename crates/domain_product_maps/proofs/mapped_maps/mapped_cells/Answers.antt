use Rattle.std.proofs.Common.{◌++◌, ap, arith}
use Rattle.domain_product_laws.specs.Calls.{mapped_cells}
use Rattle.domain_product_maps.proofs.Growing.{all_out, pushed_next}
use Rattle.domain_product_maps.proofs.Maps.{length_mapped}
use Rattle.domain_product_maps.proofs.mapped_maps.mapped_cells.Goals as goal

pub loop-place-init : goal.loop-place-init
loop-place-init g c = ap (λ l. l ++ mapped_cells g.P.ProductPart.word_of g.P.ProductPart.note_of c.args.m.now.cells) c.new-cells.ensures.items

pub loop-place-preserved : goal.loop-place-preserved
loop-place-preserved g c =
    let all = mapped_cells g.P.ProductPart.word_of g.P.ProductPart.note_of c.args.m.now.cells in
    pushed_next all c.loop-place.place c.loop-place.cells.items c.in_ok-cells.cells.items all c.mapped_entry.result c.in_ok-cells.ensures c.mapped_entry.ensures c.loop-place.invariant

pub returns : goal.returns
returns g c =
    let end = c.listed-place-end.ensures in
    let count = length_mapped g.P.ProductPart.word_of g.P.ProductPart.note_of c.args.m.now.cells in
    let all = mapped_cells g.P.ProductPart.word_of g.P.ProductPart.note_of c.args.m.now.cells in
    all_out all c.loop-place.place c.loop-place.cells.items all (omega (arith, end, count)) c.loop-place.invariant

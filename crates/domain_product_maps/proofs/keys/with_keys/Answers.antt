use Rattle.std.proofs.Common.{◌++◌, arith}
use Rattle.abstract_map_laws.specs.Maps.{keys}
use Rattle.abstract_map_laws.proofs.Fitting.{length_keys}
use Rattle.domain_product_maps.proofs.Growing.{all_out, one_out}
use Rattle.domain_product_maps.proofs.keys.with_keys.Goals as goal

pub loop-place-preserved : goal.loop-place-preserved
loop-place-preserved g c =
    one_out (keys c.args.m.now) c.loop-place.place c.key_at.result c.loop-place.numbers.items c.in_ok-numbers.numbers.items (c.args.numbers.items ++ keys c.args.m.now) c.key_at.ensures c.in_ok-numbers.ensures c.loop-place.invariant

pub returns : goal.returns
returns g c =
    let end = c.listed-place-end.ensures in
    let all = length_keys c.args.m.now.cells in
    all_out (keys c.args.m.now) c.loop-place.place c.loop-place.numbers.items (c.args.numbers.items ++ keys c.args.m.now) (omega (arith, end, all)) c.loop-place.invariant

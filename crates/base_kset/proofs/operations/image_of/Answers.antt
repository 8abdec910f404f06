use Rattle.std.proofs.Common.{map, [], sym, ◌∙◌, arith}
use Rattle.std.proofs.lemmas.List.{drop_all}
use Rattle.base_kset.specs.Changes.{changed}
use Rattle.base_kset.specs.Adding.{add_all_is}
use Rattle.base_kset.proofs.operations.image_of.Goals as goal

pub returns : goal.returns
returns g c =
    let whole = rw (drop_all c.loop-x.x-index c.args.numbers.now c.loop-x-test.false) at c.loop-x.invariant.whole in
    sym whole ∙ add_all_is g.row.K [] (map (changed c.args.change) c.args.numbers.now) (omega arith)

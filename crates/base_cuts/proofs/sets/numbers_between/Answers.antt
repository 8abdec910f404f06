use Rattle.std.proofs.Common.{◌∙◌, ap, sym}
use Rattle.std.proofs.lemmas.List.{drop_all}
use Rattle.base_cuts.specs.Sets.{with_all}
use Rattle.base_cuts.proofs.Between.{all_is}
use Rattle.base_cuts.proofs.sets.numbers_between.Goals as goal

pub returns : goal.returns
returns g c =
    let K = g.row.K in let low = c.args.low in let high = c.args.high in let numbers = c.args.numbers.now in
    sym (c.loop-n.invariant.whole ∙ ap (λ l. with_all K low high c.loop-n.found l) (drop_all c.loop-n.n-index numbers c.loop-n-test.false)) ∙ all_is K low high c.args.w numbers c.requires.word

use Rattle.std.proofs.Common.{◌<◌, ◌≤◌, map, subst}
use Rattle.abstract_value_laws.specs.Abs.{parts}
use Rattle.abstract_value.specs.View.{abs}
use Rattle.domain_product_states.specs.Alike.{AreAlike}
use Rattle.domain_product_states.proofs.Alike.{alike_done, alike_more}
use Rattle.domain_product_states.proofs.together.are_alike.Goals as goal

pub loop-i-preserved : goal.loop-i-preserved
loop-i-preserved g c =
    let xs = c.args.xs.now in
    let ys = c.args.ys.now in
    let i = c.loop-i.i in
    record {
      count = c.loop-i.invariant.count;
      more = alike_more xs ys i c.index-xs-i.result c.index-ys-i.result (AreAlike (parts (map abs xs)) (parts (map abs ys))) c.index-xs-i.is c.index-ys-i.is c.loop-i-test.true (subst (λ n. i < n) c.loop-i.invariant.count c.loop-i-test.true)
          (c.is_alike.ensures c.if-not-is_alike.false) c.loop-i.invariant.more;
    }

pub returns : goal.returns
returns g c told = c.loop-i.invariant.more (alike_done c.args.xs.now c.args.ys.now c.loop-i.i c.loop-i-test.false (subst (λ n. n ≤ c.loop-i.i) c.loop-i.invariant.count c.loop-i-test.false))

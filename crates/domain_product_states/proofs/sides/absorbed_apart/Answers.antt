use Rattle.std.proofs.Common.{map}
use Rattle.abstract_value_laws.specs.Abs.{parts}
use Rattle.abstract_value_laws.specs.Calls.{absorbs_parts}
use Rattle.abstract_value.specs.View.{abs}
use Rattle.domain_product_states.proofs.Walks.{both_off, both_on}
use Rattle.domain_product_states.proofs.sides.absorbed_apart.Goals as goal

pub returns-then-values_absorb : goal.returns-then-values_absorb
returns-then-values_absorb g c =
    rw (← c.ctx.view_is) (both_on c.values_absorb.result c.values_absorb-then-values_absorb.result (absorbs_parts g.A.Base.algebra c.ctx.inside.0 (parts (map abs c.args.xs.now)) (parts (map abs c.args.us.now))) (absorbs_parts g.B.Base.algebra c.ctx.inside.1 (parts (map abs c.args.ys.now)) (parts (map abs c.args.vs.now)))
    c.values_absorb.ensures c.values_absorb-then-values_absorb.ensures c.if-values_absorb.true)

pub returns-else-values_absorb : goal.returns-else-values_absorb
returns-else-values_absorb g c =
    rw (← c.ctx.view_is) (both_off c.values_absorb.result (absorbs_parts g.A.Base.algebra c.ctx.inside.0 (parts (map abs c.args.xs.now)) (parts (map abs c.args.us.now))) (absorbs_parts g.B.Base.algebra c.ctx.inside.1 (parts (map abs c.args.ys.now)) (parts (map abs c.args.vs.now)))
    c.values_absorb.ensures c.if-values_absorb.false)

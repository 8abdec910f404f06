use Rattle.std.proofs.Common.{◌-◌, ◌^◌, map}
use Rattle.abstract_value_laws.specs.Abs.{parts}
use Rattle.domain_laws.specs.Calls.{values_rank}
use Rattle.abstract_value.specs.View.{abs}
use Rattle.domain_product_states.proofs.Made.{apart_ranked}
use Rattle.domain_product_states.proofs.parts.ranked_apart.Goals as goal

pub returns : goal.returns
returns g c =
    rw (← c.ctx.view_is) (apart_ranked c.rank_of_values-first.result c.rank_of_values-second.result (values_rank g.A.Base.algebra c.ctx.inside.0 (parts (map abs c.args.xs.now))) (values_rank g.B.Base.algebra c.ctx.inside.1 (parts (map abs c.args.ys.now))) c.saturating_add.result (2 ^ 64 - 1)
    c.rank_of_values-first.ensures c.rank_of_values-second.ensures c.saturating_add.ensures)

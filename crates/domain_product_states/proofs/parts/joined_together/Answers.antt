use Rattle.std.proofs.Common.{map}
use Rattle.abstract_value_laws.specs.Abs.{parts}
use Rattle.abstract_value.specs.View.{abs}
use Rattle.domain_product_states.proofs.Made.{together_joined}
use Rattle.domain_product_states.proofs.Values.{parts_both}
use Rattle.domain_product_states.proofs.parts.joined_together.Goals as goal

pub join_values-requires : goal.join_values-requires
join_values-requires g c =
    let fit = parts_both g.A.Base.algebra g.B.Base.algebra c.args.ctx.now g.A.Base.CAP g.B.Base.CAP in
    record {
      left = fit (parts (map abs c.args.xs.now)) c.requires.first.0 c.requires.second.0;
      right = fit (parts (map abs c.args.ys.now)) c.requires.first.1 c.requires.second.1;
    }

pub returns : goal.returns
returns g c =
    together_joined g.A.Base.algebra g.B.Base.algebra g.A.Base.CAP g.B.Base.CAP g.met.A.Base.capacity g.met.B.Base.capacity c.args.ctx.now c.requires.room
    (parts (map abs c.args.xs.now)) (parts (map abs c.args.ys.now)) (parts (map abs c.in_ok-values.values.items)) c.in_ok-values.ensures

use Rattle.std.proofs.Common.{map}
use Rattle.abstract_value_laws.specs.Abs.{parts}
use Rattle.abstract_value.specs.View.{abs}
use Rattle.domain_product_states.proofs.Made.{together_widened}
use Rattle.domain_product_states.proofs.Values.{parts_both}
use Rattle.domain_product_states.proofs.parts.widened_together.Goals as goal

pub widen_values-requires : goal.widen_values-requires
widen_values-requires g c =
    let fit = parts_both g.A.Base.algebra g.B.Base.algebra c.args.ctx.now g.A.Base.CAP g.B.Base.CAP in
    record {
      old = fit (parts (map abs c.args.olds.now)) c.requires.first.0 c.requires.second.0;
      new = fit (parts (map abs c.args.news.now)) c.requires.first.1 c.requires.second.1;
    }

pub returns : goal.returns
returns g c =
    together_widened g.A.Base.algebra g.B.Base.algebra c.args.ctx.now (parts (map abs c.args.olds.now)) (parts (map abs c.args.news.now)) (parts (map abs c.in_ok-values.values.items)) c.in_ok-values.ensures

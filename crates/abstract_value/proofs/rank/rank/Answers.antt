use Rattle.std.proofs.Common.{◌-◌, ◌^◌, min, ap, sym, ◌∙◌}
use Rattle.abstract_value_laws.specs.Ranks.{leaf_rank}
use Rattle.abstract_value.specs.View.{abs}
use Rattle.abstract_value.proofs.Views.{abs_Map}
use Rattle.abstract_value.proofs.rank.rank.Goals as goal

pub returns-in-Map : goal.returns-in-Map
returns-in-Map g c = c.map_rank.ensures ∙ ap (λ v. min (leaf_rank g.B.Base.algebra c.args.ctx.now v) (2 ^ 64 - 1)) (sym (ap abs c.in-Map.is ∙ abs_Map _ _ c.in-Map._map c.in-Map.m))

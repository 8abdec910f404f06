use Rattle.std.proofs.Common.{subst}
use Rattle.support_modular_rows.specs.Rank.{IsRank}
use Rattle.support_modular_rows.specs.Reduction.{HasExponents}
use Rattle.support_modular_rows.proofs.Ranks.{rank_of_store}
use Rattle.support_modular_rows.proofs.rows.Rows.rank.Goals as goal

pub returns : goal.returns
returns c =
    subst (λ s. IsRank s.k s.rows c.exponents.result) c.self.view_is
    (rank_of_store c.self.inside.k c.exponents.result c.self.inside.slots.items c.self.invariant
    (subst (λ rs. HasExponents rs c.exponents.result) c.deref.ensures.value c.exponents.ensures))

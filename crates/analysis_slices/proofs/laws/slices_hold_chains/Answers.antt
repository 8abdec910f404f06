use Rattle.analysis_query_laws.proofs.One.{slices_are_of_uses}
use Rattle.analysis_query_laws.proofs.Slices.{slices_hold_chains}
use Rattle.fixpoint_theory.specs.Views.{listings}
use Rattle.analysis_slices.proofs.laws.slices_hold_chains.Goals as goal

pub returns : goal.returns
returns g c = λ p t at m key told addresses is stamped slice.
    slices_hold_chains g.D.B.Base.algebra (g.D.Domain.elements c.args.domain.now) p (listings g.D.Domain.view t) at m key told addresses is stamped (slices_are_of_uses g.D.Domain.view t at m key told addresses slice)

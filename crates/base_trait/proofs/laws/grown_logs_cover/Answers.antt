use Rattle.base_trait.proofs.Covering.{grown_cover}
use Rattle.base_trait.proofs.laws.grown_logs_cover.Goals as goal

pub returns : goal.returns
returns c = grown_cover

use Rattle.base_kset.proofs.Best.{best_results as lemma}
use Rattle.base_kset.proofs.laws.best_results.Goals as goal

pub returns : goal.returns
returns g c = lemma g.row.K

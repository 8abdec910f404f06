use Rattle.eval_code_meaning.proofs.Calls.{calls_mean_the_same}
use Rattle.eval_code_meaning.proofs.laws.calls_mean_the_same.Goals as goal

pub returns : goal.returns
returns g c = calls_mean_the_same g.B.Base.algebra g.met.B.Base.laws

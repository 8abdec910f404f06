use Rattle.eval_code_meaning.proofs.Tails.{code_runs}
use Rattle.eval_code_meaning.proofs.laws.code_means_the_same.Goals as goal

pub returns : goal.returns
returns g c spec ctx cap a calls fun xs l ok long = code_runs g.B.Base.algebra ctx cap spec a calls fun xs ok long l

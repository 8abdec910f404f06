use Rattle.eval_code_validity.proofs.Written.{code_same}
use Rattle.eval_code_validity.proofs.laws.valid_code_reads_what_is_written.Goals as goal

pub returns : goal.returns
returns g c spec ctx cap a calls reading f xs l right ok long = code_same g.B.Base.algebra ctx cap spec a calls reading right f xs ok long l
